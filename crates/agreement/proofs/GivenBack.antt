-- Rows given back: that nothing is lost by it.
use Prim.Native.Nat.{ℕ, zero, suc, ◌≤◌, ◌<◌}
use native.Mathlib.Omega.{arith}
use native.Mathlib.Nat.{eq-or-lt_of_le}
use mathlib.Core.Path.{◌≡◌, refl, sym, ap, subst, ◌∙◌}
use mathlib.Core.Logic.{inl, inr}
use mathlib.Core.Bool.{true}
use mathlib.Core.List.{List}
use Rattle.base.specs.Positions.{Before}
use Rattle.base.proofs.Cases.{clash, up_to}
use Rattle.requests.specs.Requests.{Standing, is_on_the_way}
use Rattle.requests.specs.declared.Phase.{Phase}
use Rattle.commands.specs.Outcomes.{is_begun}
use Rattle.commands.specs.declared.Command.{Command}
use Rattle.commands.specs.declared.Command.TheVariants.{Serve}
use Rattle.commands.specs.declared.Outcome.TheVariants as said
use Rattle.runs.specs.Runs.{state_at}
use Rattle.floor.specs.Floors.{station_at, department_at, InUse}
use Rattle.floor.specs.Effects.{row_taken}
use Rattle.floor.proofs.UseLaws.{use_of}
use Rattle.floor.specs.Free.{is_free}
use Rattle.floor.specs.Refusals.{refusal_on}
use Rattle.floor.specs.Step.{step_of}
use Rattle.floor.specs.Runs.{floor_at, said_at}
use Rattle.floor.specs.Soundness.{Sound}
use Rattle.floor.specs.declared.Floor.{Floor}
use Rattle.floor.proofs.FreeLaws.{next_own, next_free}
use Rattle.floor.proofs.EmptyFloors.{new_sound}
use Rattle.floor.proofs.Numbered.{accepted_refusal}
use Rattle.floor.proofs.RefusalLaws.{deliver_means}
use Rattle.floor.proofs.StationLaws.{last_from}
use Rattle.floor.proofs.ListLaws.{sound_at}
use Rattle.agreement.specs.Words.{Attempt, attempt_rank, attempt_department, Named, ServedAt, ServesAt, DeliversAt, FreedAt}
use Rattle.floor.specs.Runs.{command_at}
use Rattle.floor.specs.Floors.{first_floor}
use Rattle.agreement.specs.GivenBack.{Drops, GivenBackTheorem}
use Rattle.agreement.proofs.Shares.{used_at, highest_at}
use Rattle.agreement.specs.Demand.{trace_of}
use Rattle.floor.proofs.Reached.{New, new_floor_lem, size_at}
use Rattle.agreement.proofs.FreeRows.{begins, in_use, freed_of, free_at, free_there, own_answer, Stands, none, waits, answered, heard, stands_at, stands}

module _ (f : Floor) (l : List (List ℕ)) (new : New f) (z : Sound f) where
  -- a station's last round is not below that of an attempt that it began
  last_since : (x : Attempt (trace_of f l)) (i : ℕ) → x.at < i → x.round ≤ (station_at (floor_at f l i) x.station).last
  unfolding state_at step_of
  last_since x zero h = absurd (omega arith)
  last_since x (suc i) h = elim (up_to h) [
    | inl q ↦ subst (λ (k : ℕ). x.round ≤ (station_at (floor_at f l (suc k)) x.station).last) q (omega (arith, (begins f l new z x).last))
    | inr q ↦ elim (last_from (floor_at f l i) (command_at l i) x.station) [
      | inl e ↦ omega (arith, e, last_since x i q)
      | inr b ↦ omega (arith, b.above, last_since x i q)
    ]
  ]

  station_below : (x : Attempt (trace_of f l)) → x.station < 16
  station_below x = omega (arith, (begins f l new z x).station, (sound_at f l z x.at).station_most)

  -- of two attempts of one rank neither is the later
  not_later : (x y : Attempt (trace_of f l)) → attempt_rank (trace_of f l) x ≡ attempt_rank (trace_of f l) y → ¬ (x.at < y.at)
  not_later x y e h =
      let s : x.station ≡ y.station = omega (arith, e, station_below x, station_below y) in
      let r : x.round ≡ y.round = omega (arith, e, s) in
      omega (arith, last_since x y.at h, ap (λ (j : ℕ). (station_at (floor_at f l y.at) j).last) s, (begins f l new z y).later)

  one_rank : (x y : Attempt (trace_of f l)) → attempt_rank (trace_of f l) x ≡ attempt_rank (trace_of f l) y → x.at ≡ y.at
  one_rank x y e = let p = not_later x y e in let q = not_later y x (sym e) in omega arith

  same_number : (x y : Attempt (trace_of f l)) → x.at ≡ y.at → x.number ≡ y.number
  same_number x y e = cc (x.begun, y.begun, ap (said_at f l) e)

  module _ (y x : Attempt (trace_of f l)) (d : Drops (trace_of f l) y x) where
    -- its number means it no more
    not_named : (k : ℕ) → y.at < k → ¬ Named (trace_of f l) x k
    not_named k h n = n.last y.at d.named.earlier h (y.begun ∙ ap said.Begun (sym d.number))

    not_served : (p : Phase) (b k : ℕ) → y.at ≤ k → ¬ ServesAt (trace_of f l) x p b k
    not_served p b k h s = elim (eq-or-lt_of_le h) [
      | inl q ↦ clash (ap is_begun (ap (said_at f l) (sym q) ∙ y.begun)) (ap is_begun s.accepted)
      | inr q ↦ not_named k q s.named
    ]

    rank_not_served : (b k : ℕ) → y.at ≤ k → ¬ ServedAt (trace_of f l) (attempt_department (trace_of f l) x) (attempt_rank (trace_of f l) x) b k
    rank_not_served b k h s =
        let e = one_rank s.attempt x s.rank in
        let m = same_number s.attempt x e in
        let w = s.serves in
        not_served s.phase b k h (record {
          named = record { earlier = omega (arith, w.named.earlier, e); last = λ j u v q. w.named.last j (omega (arith, e)) v (q ∙ ap said.Begun (sym m)) };
          asked = w.asked ∙ ap (λ (a : ℕ). Serve s.phase a b) m;
          accepted = w.accepted ∙ ap said.Served m;
        })

    freed : FreedAt (trace_of f l) x y.at
    freed =
        let b = begins f l new z y in
        let e = d.number ∙ b.taken in
        let u = in_use f l new z x y.at d.named in
        let g = floor_at f l y.at in
        let own = department_at g y.station in
        let v = use_of g own (row_taken g y.station) (next_own g own b.place) (subst (InUse g) e u) in
        freed_of f l new z x y.at d.named (subst (λ (a : ℕ). is_free g a ≡ true) (sym e) (next_free g own v b.place))

module _ (f : Floor) (l : List (List ℕ)) (new : New f) (z : Sound f) where
  -- an answer that is on the way to the row of an attempt was served for it
  own_delivery : (y : Attempt (trace_of f l)) (p : Phase) (b i : ℕ) → DeliversAt (trace_of f l) y p b i → Before (ServesAt (trace_of f l) y p b) i
  unfolding step_of
  own_delivery y p b i d =
      let g = floor_at f l i in
      let e = accepted_refusal g (command_at l i) (sound_at f l z i) d.accepted in
      let c = deliver_means g p y.number b (subst (λ (c : Command). refusal_on g c ≡ 0) d.asked e) in
      go (stands f l new z y p b (omega (arith, c.box, size_at f l i)) i d.named) refl c.arrives
    where
      go : {s : Standing} → Stands f l new z y p b i s → stands_at f l new z y p b i ≡ s → is_on_the_way (stands_at f l new z y p b i) ≡ true → Before (ServesAt (trace_of f l) y p b) i
      go (none e) q h = clash h (ap is_on_the_way q)
      go (waits e) q h = clash h (ap is_on_the_way q)
      go (answered e s) q h = s
      go (heard e s d) q h = s

pub given_back : GivenBackTheorem
given_back n m ds l = let f = first_floor n m ds in let new = new_floor_lem n m ds in let z = new_sound n m ds in record {
  free = free_at f l new z;
  free_holds = free_there f l new z;
  used = used_at f l new;
  highest = highest_at f l new;
  freed = freed f l new z;
  rank_not_served = rank_not_served f l new z;
  own_deliveries = own_delivery f l new z;
  own_answers = own_answer f l new z;
}
