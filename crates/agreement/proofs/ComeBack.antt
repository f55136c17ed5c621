-- A box that was away and came back has the records it had, and the requests that waited there still wait.
use Prim.Native.Nat.{ℕ, zero, suc, ◌≤◌, ◌<◌}
use native.Mathlib.Nat.{eq-or-lt_of_le}
use native.Mathlib.Omega.{arith}
use mathlib.Core.Path.{◌≡◌, refl, sym, ap, subst, ◌∙◌}
use mathlib.Core.Logic.{inl, inr}
use mathlib.Core.Bool.{Bool, true, false}
use mathlib.Core.List.{List}
use Rattle.base.proofs.Cases.{clash, up_to}
use Rattle.register.specs.declared.Department.{Department}
use Rattle.requests.specs.Requests.{Standing, is_waiting}
use Rattle.requests.specs.declared.Phase.{Phase}
use Rattle.requests.specs.declared.Phase.TheVariants.{Read, Write}
use Rattle.commands.specs.declared.Command.{Command}
use Rattle.commands.specs.declared.Command.TheVariants.{Serve}
use Rattle.commands.specs.declared.Outcome.{Outcome}
use Rattle.commands.specs.declared.Outcome.TheVariants as said
use Rattle.runs.specs.Runs.{state_at}
use Rattle.floor.specs.Floors.{box_at, register_at}
use Rattle.floor.specs.Soundness.{Sound}
use Rattle.floor.specs.Moves.{Waits, AwayMove, away_kept, away_put, away_brought}
use Rattle.floor.specs.Step.{step_of, apply_of}
use Rattle.floor.specs.Runs.{floor_at, said_at}
use Rattle.floor.specs.declared.Floor.{Floor}
use Rattle.floor.specs.declared.Stepped.{Stepped}
use Rattle.floor.proofs.EmptyFloors.{new_sound}
use Rattle.floor.proofs.RefusalLaws.{serve_holds}
use Rattle.floor.proofs.StepLaws.{apply_accepted}
use Rattle.floor.proofs.BoxLaws.{record_from}
use Rattle.floor.proofs.AwayLaws.{row_held, waits_until}
use Rattle.floor.proofs.ListLaws.{sound_at}
use Rattle.floor.specs.Runs.{command_at}
use Rattle.agreement.specs.Words.{Attempt, Named, ServesAt, Answering}
use Rattle.floor.specs.Floors.{first_floor}
use Rattle.agreement.specs.ComeBack.{AwayFrom, IssuedBefore, Waiting, ComeBackTheorem}
use Rattle.agreement.proofs.Positions.{means_at}
use Rattle.agreement.proofs.Boxes.{away_at, away_step, put_at, back_at, answering_means, answering_holds}
use Rattle.agreement.specs.Demand.{trace_of}
use Rattle.floor.proofs.Reached.{New, new_floor_lem, size_at, lengths_at}
use Rattle.agreement.proofs.FreeRows.{in_use, Stands, none, waits, answered, heard, stands_at, stands, served_since, served_rests, was_issued, reads_issued, issued_since}

module _ (f : Floor) (l : List (List ℕ)) (new : New f) (z : Sound f) where
  abbrev here : ℕ → Floor
  here i = floor_at f l i

  module _ (b i j : ℕ) (a : AwayFrom (trace_of f l) b i j) where
    -- the box is away before each step behind the one that put it away, up to the one that brings it back
    not_back : {o : Outcome} {x y : Bool} → AwayMove b o x y → ¬ (o ≡ said.Back b) → x ≡ true → y ≡ true
    not_back (away_kept _ _) n e = e
    not_back away_put n e = refl
    not_back away_brought n e = absurd (n refl)

    away_between : (k : ℕ) → i < k → k ≤ j → away_at f l new b k ≡ true
    away_between zero h u = absurd (omega arith)
    away_between (suc k) h u = elim (up_to h) [
      | inl q ↦ subst (λ (t : ℕ). away_at f l new b (suc t) ≡ true) q (put_at f l new b i a.put).1
      | inr q ↦ not_back (away_step f l new b k) (a.between k q (omega arith)) (away_between k q (omega arith))
    ]

    -- so none of these steps serves there
    not_served : (k : ℕ) → i ≤ k → k ≤ j → (p : Phase) (c : ℕ) → command_at l k ≡ Serve p c b → said_at f l k ≡ said.Served c → ⊥
    not_served k h u p c e q = elim (eq-or-lt_of_le h) [
      | inl t ↦ (let s : said.Stopped b ≡ said.Served c = sym a.put ∙ ap (said_at f l) t ∙ q in let n : ◌≡◌ {A = ℕ} 0 1 = cc in omega arith)
      | inr t ↦ (
          let m = means_at f l new k (said.Served c) q in
          let same : m.box ≡ b = cc (m.command, e) in
          clash (away_between k t u) (subst (λ (x : ℕ). (box_at (here k) x).away ≡ false) same m.may.not_away))
    ]

    records : (k : ℕ) → i ≤ k → k ≤ suc j → (d : Department) → register_at (here k) d b ≡ register_at (here i) d b
    unfolding state_at step_of
    records zero h u d = let e : 0 ≡ i = omega arith in ap (λ (t : ℕ). register_at (here t) d b) e
    records (suc k) h u d = elim (eq-or-lt_of_le h) [
      | inl q ↦ ap (λ (t : ℕ). register_at (here t) d b) (sym q)
      | inr q ↦ elim (record_from (here k) (command_at l k) b d) [
        | inl e ↦ e ∙ records k (omega arith) (omega arith) d
        | inr s ↦ absurd (not_served k (omega arith) (omega arith) s.phase s.attempt s.command s.outcome)
      ]
    ]

  -- a request that waits on the floor, step by step
  module _ (x : Attempt (trace_of f l)) (p : Phase) (b : ℕ) where
    abbrev WaitsHere : ℕ → Type 0
    WaitsHere k = Named (trace_of f l) x k × Waits (here k) p x.number b

    next : (k : ℕ) → ¬ ServesAt (trace_of f l) x p b k → WaitsHere k → WaitsHere (suc k)
    unfolding state_at step_of
    next k n w =
        let y = lengths_at f l new k in
        let other = row_held (here k) (command_at l k) y p x.number b w.1 in (
          record {
            earlier = omega (arith, w.0.earlier);
            last = λ t v q e. elim (up_to q) [ inl r ↦ other (ap (said_at f l) (sym r) ∙ e) | inr r ↦ w.0.last t v r e ];
          },
          elim (waits_until (here k) (command_at l k) y p x.number b w.1 (sound_at f l z k)) [
            | inl o ↦ o.waits
            | inr s ↦ absurd (n (record { named = w.0; asked = s.0; accepted = s.1 }))
          ],
        )

    until : (k j : ℕ) → k ≤ j → ((i : ℕ) → k ≤ i → i < j → ¬ ServesAt (trace_of f l) x p b i) → WaitsHere k → WaitsHere j
    until k zero h n w = subst WaitsHere (omega arith) w
    until k (suc j) h n w = elim (eq-or-lt_of_le h) [
      | inl q ↦ subst WaitsHere q w
      | inr q ↦ next j (n j (omega arith) (omega arith)) (until k j (omega arith) (λ i u v. n i u (omega arith)) w)
    ]

  -- the words of the list, and the floor
  issued_then : (x : Attempt (trace_of f l)) (p : Phase) (k t : ℕ) → k ≤ t → IssuedBefore (trace_of f l) x p k → IssuedBefore (trace_of f l) x p t
  issued_then x Read k t h d = tt
  issued_then x Write k t h d = (d.0, record { at = d.1.at; earlier = omega (arith, d.1.earlier); holds = d.1.holds })

  issued_there : (x : Attempt (trace_of f l)) (p : Phase) (b k : ℕ) → b < f.n → Named (trace_of f l) x k → IssuedBefore (trace_of f l) x p k → was_issued (stands_at f l new z x p b k) ≡ true
  issued_there x Read b k h n d = reads_issued f l new z x b k (stands f l new z x Read b h k n)
  issued_there x Write b k h n d = issued_since f l new z x d.0 b h k n d.1

  waits_there : (x : Attempt (trace_of f l)) (p : Phase) (b k : ℕ) → Waiting (trace_of f l) x p b k → Waits (here k) p x.number b
  waits_there x p b k w = record {
    used = in_use f l new z x k w.named;
    box = omega (arith, w.box, size_at f l k);
    waits = go (stands f l new z x p b w.box k w.named) refl;
  }
    where
      go : {s : Standing} → Stands f l new z x p b k s → stands_at f l new z x p b k ≡ s → is_waiting s ≡ true
      go (none e) q = clash (issued_there x p b k w.box w.named w.issued) (ap was_issued q)
      go (waits h) q = refl
      go (answered h s) q = absurd (w.unserved s)
      go (heard h s d) q = absurd (w.unserved s)

  waiting_there : (x : Attempt (trace_of f l)) (p : Phase) (b k : ℕ) → Named (trace_of f l) x k → b < f.n → IssuedBefore (trace_of f l) x p k → Waits (here k) p x.number b → Waiting (trace_of f l) x p b k
  waiting_there x p b k n h d w = record {
    named = n;
    box = h;
    issued = d;
    unserved = λ s. clash w.waits (served_rests (stands_at f l new z x p b k) (served_since f l new z x p b h k n s));
  }

  module _ (x : Attempt (trace_of f l)) (p : Phase) (b k : ℕ) (w : Waiting (trace_of f l) x p b k) where
    still : (j : ℕ) → k ≤ j → ((i : ℕ) → k ≤ i → i < j → ¬ ServesAt (trace_of f l) x p b i) → Waiting (trace_of f l) x p b j
    still j h n =
        let later = until x p b k j h n (w.named, waits_there x p b k w) in
        waiting_there x p b j later.0 w.box (issued_then x p k j h w.issued) later.1

    accepted : Answering (trace_of f l) k b → command_at l k ≡ Serve p x.number b → said_at f l k ≡ said.Served x.number
    unfolding step_of
    accepted a e =
        let g = here k in
        let there = waits_there x p b k w in
        let can = serve_holds g p x.number b (record {
          used = there.used;
          box = there.box;
          not_away = answering_means f l new b k a;
          waits = there.waits;
        }) in
        ap (λ (c : Command). (apply_of g c).outcome) e ∙ ap (λ (s : Stepped). s.outcome) (apply_accepted g (Serve p x.number b) (sound_at f l z k) can)

  at_return : (b i j k : ℕ) (a : AwayFrom (trace_of f l) b i j) → i ≤ k → k ≤ j → (x : Attempt (trace_of f l)) (p : Phase) → Waiting (trace_of f l) x p b k → Waiting (trace_of f l) x p b (suc j)
  at_return b i j k a h u x p w =
      still x p b k w (suc j) (omega arith) (λ t v q s. not_served b i j a t (omega arith) (omega arith) p x.number s.asked s.accepted)

pub come_back : ComeBackTheorem
come_back n m ds l = let f = first_floor n m ds in let new = new_floor_lem n m ds in let z = new_sound n m ds in record {
  records = λ b i j k a. records f l new z b i j a k;
  waits = λ b i j k a h u x p w. at_return f l new z b i j k a h u x p w;
  served = λ b i j k a h u x p w e. accepted f l new z x p b (suc j) (at_return f l new z b i j k a h u x p w) (answering_holds f l new b (suc j) (back_at f l new b j a.back).1) e;
  waits_until = λ x p b k j h w. still f l new z x p b k w j h;
  served_there = accepted f l new z;
  answers = λ b i j a. answering_holds f l new b (suc j) (back_at f l new b j a.back).1;
}
