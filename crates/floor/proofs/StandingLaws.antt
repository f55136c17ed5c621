-- What a step does to where a request stands.
use Prim.Native.Nat.{ℕ, ◌<◌}
use native.Mathlib.Omega.{arith}
use native.Mathlib.Decide.{ℕ_discrete}
use mathlib.Core.Path.{◌≡◌, refl, sym, ap, subst, ◌∙◌}
use mathlib.Core.Bool.{Bool, true, false}
use lib.ListN.{length}
use Rattle.suits.specs.declared.Suit.{Suit}
use Rattle.base.proofs.Cases.{clash}
use Rattle.base.specs.Mask.{bit}
use Rattle.requests.specs.Requests.{Standing, not_issued, waiting, on_the_way, received, standing, slot_at, standing_of, is_waiting, is_on_the_way, served_at, received_from}
use Rattle.requests.specs.declared.Phase.{Phase}
use Rattle.requests.specs.declared.Phase.TheVariants.{Read, Write}
use Rattle.requests.specs.declared.Requests.{Requests}
use Rattle.requests.specs.declared.Stage.{Stage}
use Rattle.register.specs.declared.Register.{Register}
use Rattle.requests.proofs.Claims.{request_claims}
use Rattle.requests.proofs.Standings.{waits_means}
use Rattle.commands.specs.Outcomes.{is_refused}
use Rattle.commands.specs.declared.Command.{Command}
use Rattle.commands.specs.declared.Command.TheVariants.{Serve, Deliver}
use Rattle.commands.specs.declared.Outcome.{Outcome}
use Rattle.commands.specs.declared.Outcome.TheVariants.{Served, WriteIssued}
use Rattle.attempts.specs.Rows.{requests_of, row_served, row_heard, issued}
use Rattle.attempts.specs.Stations.{is_reading}
use Rattle.attempts.specs.declared.Row.{Row}
use Rattle.floor.specs.Floors.{row_at, owner_at}
use Rattle.floor.specs.Effects.{served_by}
use Rattle.floor.specs.Step.{apply_of}
use Rattle.floor.specs.Soundness.{Sound, Lengths}
use Rattle.floor.specs.declared.Floor.{Floor}
use Rattle.floor.proofs.Moves.{RowMove, row_kept, row_begins, row_served_lem, row_heard_lem, row_issues, apply_row, StandingMove, stands_kept, stands_new, stands_served, stands_received, stands_issued}

pub is_waiting_lem : (s : Standing) → is_waiting s ≡ true → s ≡ waiting
is_waiting_lem not_issued e = clash e refl
is_waiting_lem waiting e = refl
is_waiting_lem on_the_way e = clash e refl
is_waiting_lem received e = clash e refl

pub is_on_the_way_lem : (s : Standing) → is_on_the_way s ≡ true → s ≡ on_the_way
is_on_the_way_lem not_issued e = clash e refl
is_on_the_way_lem waiting e = clash e refl
is_on_the_way_lem on_the_way e = refl
is_on_the_way_lem received e = clash e refl

-- a bit of the mask and the stage tell it
same_standing : (g : Stage) (m k b : ℕ) → bit m b ≡ bit k b → standing g m b ≡ standing g k b
unfolding standing
same_standing g m k b e = rw e refl

module _ (f : Floor) (z : Sound f) (y : Lengths f) (a : ℕ) (h : a < 128) (b : ℕ) (l : b < f.n) (c : Command) where
  module _ (p : Phase) where
    abbrev Moves : Outcome → Standing → Standing → Type 0
    Moves o s t = StandingMove f c a p b o s t

    moves : {o : Outcome} {s s' t t' : Standing} → s ≡ s' → t ≡ t' → Moves o s' t' → Moves o s t
    moves e q m = rw (e, q) m

    -- the request is served at the box j
    one_served : (q : Requests) (ok : Bool) (j : ℕ) → length q.slots ≡ 9 → is_waiting (standing_of q j) ≡ true → c ≡ Serve p a j
        → Moves (Served a) (standing_of q b) (standing_of (served_at q j ok) b)
    one_served q ok j s w e = elim (ℕ_discrete b j) [
      | yes i ↦ (
          let before = subst (λ (k : ℕ). is_waiting (standing_of q k) ≡ true) (sym i) w in
          let unheard = (waits_means (slot_at q b).stage q.heard b before).1 in
          moves (is_waiting_lem _ before)
          (is_on_the_way_lem _ (subst (λ (k : ℕ). is_on_the_way (standing_of (served_at q k ok) b) ≡ true) i (request_claims.on_the_way q b (omega (arith, z.box_most)) ok unheard)))
          (stands_served (e ∙ ap (Serve p a) (sym i))))
      | no i ↦ moves refl (request_claims.served_other q j ok b i) stands_kept
    ]

    -- its answer is received from the box j
    one_heard : (q : Requests) (o : Outcome) (j : ℕ) → is_refused o ≡ false → is_on_the_way (standing_of q j) ≡ true → c ≡ Deliver p a j → Moves o (standing_of q b) (standing_of (received_from q j) b)
    one_heard q o j k w e = elim (ℕ_discrete b j) [
      | yes i ↦
          moves (is_on_the_way_lem _ (subst (λ (k : ℕ). is_on_the_way (standing_of q k) ≡ true) (sym i) w))
          (request_claims.heard (slot_at q b).stage _ b (subst (λ (k : ℕ). bit (received_from q k).heard b ≡ true) i (request_claims.received_same q b)))
          (stands_received (e ∙ ap (Deliver p a) (sym i)) k)
      | no i ↦ moves refl (same_standing (slot_at q b).stage _ _ b (request_claims.received_other q j b i)) stands_kept
    ]

  -- by the phase of the request, and that of the step
  abbrev Leads : Phase → Outcome → Row → Type 0
  Leads p o w = StandingMove f c a p b o (standing_of (requests_of p (row_at f a)) b) (standing_of (requests_of p w) b)

  served_leads : (p q : Phase) (j : ℕ) (g : Register) → c ≡ Serve q a j → is_waiting (standing_of (requests_of q (row_at f a)) j) ≡ true
      → Leads p (Served a) (row_served q (row_at f a) g j)
  served_leads Read Read j g e w = one_served Read (row_at f a).read _ j (y.slots Read a h) w e
  served_leads Write Write j g e w = one_served Write (row_at f a).write _ j (y.slots Write a h) w e
  served_leads Read Write j g e w = stands_kept
  served_leads Write Read j g e w = stands_kept

  heard_leads : (p q : Phase) (j : ℕ) (o : Outcome) → is_refused o ≡ false → c ≡ Deliver q a j → is_on_the_way (standing_of (requests_of q (row_at f a)) j) ≡ true
      → Leads p o (row_heard q (row_at f a) j)
  heard_leads Read Read j o k e w = one_heard Read (row_at f a).read o j k w e
  heard_leads Write Write j o k e w = one_heard Write (row_at f a).write o j k w e
  heard_leads Read Write j o k e w = stands_kept
  heard_leads Write Read j o k e w = stands_kept

  issued_leads : (p : Phase) (j : ℕ) (v : Suit) → c ≡ Deliver Read a j → is_on_the_way (standing_of (row_at f a).read j) ≡ true → is_reading (owner_at f a).state a ≡ true
      → Leads p (WriteIssued v) (issued (row_heard Read (row_at f a) j) v f.n)
  unfolding issued
  issued_leads Read j v e w r = one_heard Read (row_at f a).read (WriteIssued v) j refl w e
  issued_leads Write j v e w r = moves Write refl (is_waiting_lem _ (request_claims.waits f.n b z.box_most l)) (stands_issued refl e r)

  leads : (p : Phase) {o : Outcome} {w : Row} → RowMove f c a o w → Leads p o w
  leads p row_kept = stands_kept
  leads p (row_begins e s q) = stands_new (sym q)
  leads p (row_served_lem {p = q} {b = j} e d) = served_leads p q j (served_by f a j) e d.waits
  leads p (row_heard_lem {p = q} {b = j} {o = o} e d k) = heard_leads p q j o k e d.arrives
  leads p (row_issues {b = j} {v = v} e d r q t u) = issued_leads p j v e d.arrives r

pub apply_standing : (f : Floor) → Sound f → Lengths f → (a : ℕ) → a < 128 → (p : Phase) (b : ℕ) → b < f.n → (c : Command)
    → StandingMove f c a p b (apply_of f c).outcome (standing_of (requests_of p (row_at f a)) b) (standing_of (requests_of p (row_at (apply_of f c).floor a)) b)
apply_standing f z y a h p b l c = leads f z y a h b l c p (apply_row f c a)
