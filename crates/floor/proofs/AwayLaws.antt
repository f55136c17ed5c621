-- What boxes that are put away and brought back leave as it was: a row of which a request waits is given to no other attempt, requests that
-- wait at a box that is away wait on, and only the steps that say so put a box away and bring it back.
use Prim.Native.Nat.{ℕ, ◌<◌}
use native.Mathlib.Omega.{arith}
use native.Mathlib.Decide.{ℕ_discrete}
use mathlib.Core.Path.{◌≡◌, refl, sym, ap, subst, ◌∙◌}
use mathlib.Core.Logic.{◌⊎◌, inl, inr}
use mathlib.Core.Bool.{Bool, true, false}
use lib.ListN.{get_or, set}
use lib.Seq.{get_or-set_other}
use Rattle.base.proofs.Cases.{clash}
use Rattle.base.proofs.Stores.{set_all}
use Rattle.register.specs.Register.{box0, box_with}
use Rattle.register.specs.declared.StorageBox.{StorageBox}
use Rattle.requests.specs.Requests.{Standing, standing_of, is_waiting}
use Rattle.requests.specs.declared.Phase.{Phase}
use Rattle.commands.specs.declared.Command.{Command}
use Rattle.commands.specs.declared.Command.TheVariants.{Serve}
use Rattle.commands.specs.declared.Outcome.{Outcome}
use Rattle.commands.specs.declared.Outcome.TheVariants as said
use Rattle.attempts.specs.Rows.{row_department, requests_of, register_served}
use Rattle.floor.specs.Floors.{box_at, row_at, department_at}
use Rattle.floor.specs.Effects.{row_taken, served_by, with_away}
use Rattle.floor.specs.Step.{apply_of}
use Rattle.floor.specs.Soundness.{Sound, Lengths}
use Rattle.floor.specs.Moves.{Waits, WaitsOn, AwayMove, away_kept, away_put, away_brought}
use Rattle.floor.specs.declared.Floor.{Floor}
use Rattle.floor.specs.declared.Stepped.{Stepped}
use Rattle.floor.proofs.UseLaws.{use_of, in_use_most}
use Rattle.floor.proofs.FreeLaws.{free_means, next_own, next_free}
use Rattle.floor.proofs.StepCases.{StepCase, turned, began, served, heard, issued, decided, aborted, stopped, left, returned, apply_case}
use Rattle.floor.proofs.Keeps.{apply_sizes}
use Rattle.floor.proofs.StoredLaws.{box_stored}
use Rattle.floor.proofs.Moves.{StandingMove, stands_kept, stands_new, stands_served, stands_received, stands_issued}
use Rattle.floor.proofs.RowLaws.{used_stays, row_same}
use Rattle.floor.proofs.StandingLaws.{apply_standing}
use Rattle.floor.proofs.Outcomes.{apply_means}

-- the row that a begin takes, where it was in use, has nothing waiting
taken_rests : (f : Floor) (p : Phase) (s a b : ℕ) → a ≡ row_taken f s → row_taken f s < 128 → Waits f p a b → ⊥
taken_rests f p s a b q h w =
    let d = department_at f s in
    let own : row_department a ≡ d = ap row_department q ∙ next_own f d h in
    let free = free_means f (row_taken f s) (next_free f d (omega (arith, use_of f d a own w.used)) h) in
    clash w.waits (subst (λ (j : ℕ). is_waiting (standing_of (requests_of p (row_at f j)) b) ≡ false) (sym q) (free.served b w.box p))

module _ (f : Floor) (c : Command) (y : Lengths f) (p : Phase) (a b : ℕ) (w : Waits f p a b) where
  abbrev saying : Outcome
  saying = (apply_of f c).outcome

  pub row_held : ¬ (saying ≡ said.Begun a)
  row_held e = let m = apply_means f c (said.Begun a) e in taken_rests f p m.station a b m.next m.may.row w

  -- a box that is away serves nothing
  not_served : (box_at f b).away ≡ true → c ≡ Serve p a b → saying ≡ said.Served a → ⊥
  not_served t e q =
      let m = apply_means f c (said.Served a) q in
      let same : m.box ≡ b = cc in
      clash t (subst (λ (j : ℕ). (box_at f j).away ≡ false) same m.may.not_away)

  still_waits : {o : Outcome} {s t : Standing} → StandingMove f c a p b o s t → saying ≡ o → is_waiting s ≡ true → (is_waiting t ≡ true) ⊎ ((c ≡ Serve p a b) × (saying ≡ said.Served a))
  still_waits stands_kept q h = inl h
  still_waits (stands_new k) q h = absurd (row_held (q ∙ ap said.Begun k))
  still_waits (stands_served k) q h = inr (k, q)
  still_waits (stands_received k r) q h = clash h refl
  still_waits (stands_issued r k i) q h = inl refl

  pub waits_until : Sound f → WaitsOn f (apply_of f c).floor p a b ⊎ ((c ≡ Serve p a b) × (saying ≡ said.Served a))
  waits_until z = elim (still_waits (apply_standing f z y a (in_use_most f z a w.used) p b w.box c) refl w.waits) [
    | inl e ↦ inl (record {
      waits = record { used = used_stays f c a w.used; box = omega (arith, w.box, (apply_sizes f c).boxes); waits = e };
      attempt = row_same f c a row_held;
    })
    | inr s ↦ inr s
  ]

  pub waits_on : Sound f → (box_at f b).away ≡ true → WaitsOn f (apply_of f c).floor p a b
  waits_on z e = elim (waits_until z) [ inl x ↦ x | inr s ↦ absurd (not_served e s.0 s.1) ]

-- the things said that move a box
abbrev pub is_move : Outcome → Bool
is_move (said.Begun a) = false
is_move (said.Served a) = false
is_move (said.Received a) = false
is_move (said.Aborted a) = false
is_move (said.WriteIssued v) = false
is_move (said.Decided v) = false
is_move (said.Stopped b) = true
is_move (said.Gone s) = false
is_move (said.Back b) = true
is_move (said.Refused k) = false

stays : (b : ℕ) (o : Outcome) (x : Bool) → is_move o ≡ false → AwayMove b o x x
stays b o x e = away_kept (λ q. clash (ap is_move q) e) (λ q. clash (ap is_move q) e)

-- another box is moved
other_moves : (f : Floor) (b j : ℕ) (t : Bool) (o : Outcome) → ¬ (j ≡ b) → ¬ (o ≡ said.Stopped j) → ¬ (o ≡ said.Back j)
    → AwayMove j o (box_at f j).away (get_or (set f.boxes b (with_away t (box_at f b))) j box0).away
other_moves f b j t o n p q = rw (get_or-set_other f.boxes b j (with_away t (box_at f b)) box0 n) (away_kept {o = o} p q)

away_moved : {f : Floor} {c : Command} {s : Stepped} → Lengths f → StepCase f c s → (j : ℕ) → AwayMove j s.outcome (box_at f j).away (box_at s.floor j).away
away_moved y (turned k t) j = stays j _ _ refl
away_moved y (began z d) j = stays j _ _ refl
away_moved {f} y (served {p = p} {a = a} {b = b} z d) j =
    rw (set_all box0 (λ (i : ℕ) (x : StorageBox). x.away ≡ (box_at f i).away) f.boxes b (box_with (row_department a) (box_at f b) (register_served p (row_at f a) (served_by f a b)) (box_at f b).away) (λ i. refl) refl j)
    (stays j _ _ refl)
away_moved y (heard z d q) j = stays j _ _ refl
away_moved y (issued z d r q t) j = stays j _ _ refl
away_moved y (decided z d r q t) j = stays j _ _ refl
away_moved y (aborted z d r q t) j = stays j _ _ refl
away_moved {f} y (stopped {b = b} z d) j = elim (ℕ_discrete j b) [
  | yes e ↦ rw (e, d.not_away, box_stored f y z b (with_away true (box_at f b)) d.box) away_put
  | no n ↦ other_moves f b j true (said.Stopped b) n (λ q. n (cc)) (λ q. let k : ◌≡◌ {A = ℕ} 0 1 = cc in omega arith)
]
away_moved y (left z d) j = stays j _ _ refl
away_moved {f} y (returned {b = b} z d) j = elim (ℕ_discrete j b) [
  | yes e ↦ rw (e, d.away, box_stored f y z b (with_away false (box_at f b)) d.box) away_brought
  | no n ↦ other_moves f b j false (said.Back b) n (λ q. let k : ◌≡◌ {A = ℕ} 0 1 = cc in omega arith) (λ q. n (cc))
]

pub away_moves : (f : Floor) (c : Command) → Lengths f → (j : ℕ) → AwayMove j (apply_of f c).outcome (box_at f j).away (box_at (apply_of f c).floor j).away
away_moves f c y = away_moved y (apply_case f c)
