-- What a step does to the rows: how many are in use, what stays of an attempt, and that each delivery is counted once.
use Prim.Native.Nat.{ℕ, ◌+◌}
use native.Mathlib.Decide.{ℕ_discrete}
use mathlib.Core.Path.{◌≡◌, refl, sym, ap, subst, ◌∙◌}
use mathlib.Core.Logic.{◌⊎◌, inl, inr}
use mathlib.Core.Bool.{false}
use Rattle.suits.specs.declared.Suit.{Suit}
use Rattle.base.specs.Mask.{count_below}
use Rattle.base.proofs.MaskLaws.{count_more}
use Rattle.register.specs.declared.Department.{Department}
use Rattle.register.proofs.DepartmentLaws.{same_or_not}
use Rattle.floor.specs.Floors.{row_at, department_at, share_of, InUse}
use Rattle.attempts.specs.Rows.{requests_of}
use Rattle.attempts.specs.Rows as rows
use Rattle.commands.specs.Outcomes.{is_refused, is_begun}
use Rattle.commands.specs.Commands.{command_of}
use mathlib.Core.List.{List}
use Rattle.floor.specs.Step.{apply_of, step_of}
use Rattle.attempts.specs.declared.Row.{Row}
use Rattle.floor.specs.Effects.{row_taken, share_after, after_begin}
use Rattle.floor.specs.Moves.{SameAttempt, RaisesNow}
use Rattle.floor.specs.Tests.{CanDeliver}
use Rattle.floor.specs.Soundness.{Lengths}
use Rattle.floor.specs.declared.Floor.{Floor}
use Rattle.floor.specs.declared.Stepped.{Stepped}
use Rattle.commands.specs.declared.Outcome.{Outcome}
use Rattle.commands.specs.declared.Outcome.TheVariants.{Begun}
use Rattle.commands.specs.declared.Command.{Command}
use Rattle.commands.specs.declared.Command.TheVariants.{Begin, Deliver}
use Rattle.requests.specs.declared.Phase.{Phase}
use Rattle.requests.specs.declared.Phase.TheVariants.{Read, Write}
use Rattle.requests.specs.declared.Requests.{Requests}
use Rattle.base.proofs.Cases.{clash}
use Rattle.requests.proofs.Standings.{arrives_means}
use Rattle.floor.proofs.StepCases.{StepCase, turned, began, served, heard, issued, decided, aborted, stopped, left, returned, apply_case}
use Rattle.floor.proofs.UseLaws.{share_own, share_other}
use Rattle.floor.proofs.Moves.{RowMove, row_kept, row_begins, row_served_lem, row_heard_lem, row_issues, apply_row}
use Rattle.floor.proofs.BegunUse.{begun_use, use_begun, taken_use}
use Rattle.floor.proofs.StoredLaws.{used_stored}
use Rattle.floor.proofs.Outcomes.{apply_means}

raised : {f : Floor} {c : Command} {s : Stepped} → StepCase f c s → (d : Department) → (share_of d s.floor ≡ share_of d f) ⊎ RaisesNow f d c s.outcome (share_of d s.floor)
raised (turned k t) e = inl refl
raised {f} (began {s = s} {round = r} {v = v} z d) e = elim (same_or_not e (department_at f s)) [
  | inl q ↦ inr (record {
    station = s;
    round = r;
    offer = v;
    command = refl;
    outcome = refl;
    of = sym q;
    share = ap (λ (x : Department). share_of x (after_begin f s r v)) q ∙ share_own (department_at f s) f (share_after f s r);
  })
  | inr n ↦ inl (share_other (department_at f s) e f (share_after f s r) n)
]
raised (served z d) e = inl refl
raised (heard z d q) e = inl refl
raised (issued z d r q t) e = inl refl
raised (decided z d r q t) e = inl refl
raised (aborted z d r q t) e = inl refl
raised (stopped z d) e = inl refl
raised (left z d) e = inl refl
raised (returned z d) e = inl refl

-- what a department uses, and its highest rank begun, change at a begin of one of its stations only
pub apply_share : (f : Floor) (c : Command) (d : Department) → (share_of d (apply_of f c).floor ≡ share_of d f) ⊎ RaisesNow f d c (apply_of f c).outcome (share_of d (apply_of f c).floor)
apply_share f c = raised (apply_case f c)

-- a row in use stays in use
still_used : {f : Floor} {c : Command} {s : Stepped} → StepCase f c s → (a : ℕ) → InUse f a → InUse s.floor a
still_used (turned k t) a h = h
still_used {f} (began {s = s} {round = r} {v = v} z d) a h = use_begun f s r v a h
still_used (served z d) a h = h
still_used (heard z d q) a h = h
still_used (issued z d r q t) a h = h
still_used (decided z d r q t) a h = h
still_used (aborted z d r q t) a h = h
still_used (stopped z d) a h = h
still_used (left z d) a h = h
still_used (returned z d) a h = h

pub used_stays : (f : Floor) (c : Command) (a : ℕ) → InUse f a → InUse (apply_of f c).floor a
used_stays f c = still_used (apply_case f c)

-- the row begun is in use
pub apply_begun_use : (f : Floor) (c : Command) (a : ℕ) → (apply_of f c).outcome ≡ Begun a → InUse (apply_of f c).floor a
apply_begun_use f c a e =
    let m = apply_means f c (Begun a) e in
    subst (InUse (apply_of f c).floor) (sym m.next)
    (subst (λ (g : Floor). InUse g (row_taken f m.station)) (sym m.floor) (taken_use f m.station m.round m.offer m.may.row))

-- only a begin says begun
pub apply_not_begun : (f : Floor) (c : Command) → ((t round : ℕ) (v : Suit) → ¬ (c ≡ Begin t round v)) → (a : ℕ) → ¬ ((apply_of f c).outcome ≡ Begun a)
apply_not_begun f c n a e = let m = apply_means f c (Begun a) e in n m.station m.round m.offer m.command

-- a row in use after a step was begun by it, or was in use before and is the same attempt's
in_use : {f : Floor} {c : Command} {s : Stepped} → StepCase f c s → (a : ℕ) → InUse s.floor a → (s.outcome ≡ Begun a) ⊎ (InUse f a × (¬ (s.outcome ≡ Begun a)))
in_use (turned k t) a h = inr (h, λ e. clash (ap is_begun e) refl)
in_use {f} (began {s = s} {round = r} {v = v} z d) a h = elim (ℕ_discrete a (row_taken f s)) [
  | yes q ↦ inl (ap Begun (sym q))
  | no q ↦ inr (begun_use f s r v a h q, λ e. q (cc))
]
in_use (served z d) a h = inr (h, λ e. clash (ap is_begun e) refl)
in_use (heard z d q) a h = inr (h, λ e. clash (ap is_begun e) refl)
in_use (issued z d r q t) a h = inr (h, λ e. clash (ap is_begun e) refl)
in_use (decided z d r q t) a h = inr (h, λ e. clash (ap is_begun e) refl)
in_use (aborted z d r q t) a h = inr (h, λ e. clash (ap is_begun e) refl)
in_use (stopped z d) a h = inr (h, λ e. clash (ap is_begun e) refl)
in_use (left z d) a h = inr (h, λ e. clash (ap is_begun e) refl)
in_use (returned z d) a h = inr (h, λ e. clash (ap is_begun e) refl)

pub apply_in_use : (f : Floor) (c : Command) (a : ℕ) → InUse (apply_of f c).floor a → ((apply_of f c).outcome ≡ Begun a) ⊎ (InUse f a × (¬ ((apply_of f c).outcome ≡ Begun a)))
apply_in_use f c = in_use (apply_case f c)

module _ {f : Floor} {c : Command} {j : ℕ} where
  attempt_kept : {o : Outcome} {w : Row} → RowMove f c j o w → ¬ (o ≡ Begun j) → SameAttempt (row_at f j) w
  unfolding rows.issued
  attempt_kept row_kept n = record { station = refl; rank = refl; offer = refl }
  attempt_kept (row_begins q l e) n = absurd (n (ap Begun (sym e)))
  attempt_kept (row_served_lem q d) n = record { station = refl; rank = refl; offer = refl }
  attempt_kept (row_issues q d r t u e) n = record { station = refl; rank = refl; offer = refl }
  attempt_kept (row_heard_lem q d o) n = record { station = refl; rank = refl; offer = refl }

-- the row j before and after the step, and what the step said
module _ (f : Floor) (c : Command) (j : ℕ) where
  abbrev before : Row
  before = row_at f j

  abbrev after : Row
  after = row_at (apply_of f c).floor j

  abbrev said : Outcome
  said = (apply_of f c).outcome

  -- an attempt keeps its station, its rank and its offer, unless the step begins another in its row
  pub row_same : ¬ (said ≡ Begun j) → SameAttempt before after
  row_same = attempt_kept (apply_row f c j)

-- the phase replaced is the one put in
pub requests_put : (p : Phase) (w : Row) (h : Requests) → requests_of p (rows.with_requests p w h) ≡ h
requests_put Read w h = refl
requests_put Write w h = refl

-- an answer that is delivered is counted once: its box was not in the mask
module _ (f : Floor) (a b : ℕ) where
  pub counted : (p : Phase) → CanDeliver f p a b → count_below (rows.requests_heard p (row_at f a) b).heard f.n ≡ count_below (requests_of p (row_at f a)).heard f.n + 1
  counted p d = count_more (requests_of p (row_at f a)).heard b f.n d.box (arrives_means _ (requests_of p (row_at f a)).heard b d.arrives).1

  -- the row a after a delivery that is accepted: the answer is received
  module _ (y : Lengths f) where
    heard_after : (p : Phase) {s : Stepped} → StepCase f (Deliver p a b) s → is_refused s.outcome ≡ false
        → CanDeliver f p a b × ((requests_of p (row_at s.floor a)).heard ≡ (rows.requests_heard p (row_at f a) b).heard)
    unfolding rows.issued
    heard_after p (turned k t) e = clash refl e
    heard_after p (heard z d q) e = (d, ap (λ (w : Row). (requests_of p w).heard) (used_stored f y z a _ d.used) ∙ ap (λ (h : Requests). h.heard) (requests_put p (row_at f a) _))
    heard_after _ (issued z d r q t) e = (d, ap (λ (w : Row). w.read.heard) (used_stored f y z a _ d.used))
    heard_after _ (decided z d r q t) e = (d, ap (λ (w : Row). w.write.heard) (used_stored f y z a _ d.used))
    heard_after p (aborted z d r q t) e = (d, ap (λ (w : Row). (requests_of p w).heard) (used_stored f y z a _ d.used) ∙ ap (λ (h : Requests). h.heard) (requests_put p (row_at f a) _))

    -- each accepted delivery makes the answers received from boxes below n one more
    pub apply_counted : (p : Phase) → is_refused (apply_of f (Deliver p a b)).outcome ≡ false
        → count_below (requests_of p (row_at (apply_of f (Deliver p a b)).floor a)).heard f.n ≡ count_below (requests_of p (row_at f a)).heard f.n + 1
    apply_counted p e = let q = heard_after p (apply_case f (Deliver p a b)) e in ap (λ (m : ℕ). count_below m f.n) q.1 ∙ counted p q.0

pub step_counted : (f : Floor) (r : List ℕ) (p : Phase) (a b : ℕ) → Lengths f → command_of r ≡ Deliver p a b → is_refused (step_of f r).outcome ≡ false
    → count_below (requests_of p (row_at (step_of f r).floor a)).heard f.n ≡ count_below (requests_of p (row_at f a)).heard f.n + 1
unfolding step_of
step_counted f r p a b y e t = rw e (apply_counted f a b y p (rw (← e) t))
