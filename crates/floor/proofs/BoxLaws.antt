-- What a step does to the records of the boxes, and where their ranks and values come from.
use Prim.Native.Nat.{ℕ}
use native.Mathlib.Nat.{le_refl}
use native.Mathlib.Omega.{arith}
use mathlib.Core.Path.{◌≡◌, refl, sym}
use mathlib.Core.Logic.{◌⊎◌, inl, inr}
use mathlib.Core.Bool.{true, false}
use Rattle.base.proofs.Choices.{by_test}
use Rattle.register.specs.Register.{register_of, rmw_read, rmw_write, takes}
use Rattle.register.specs.declared.Department.{Department}
use Rattle.register.specs.declared.Register.{Register}
use Rattle.register.specs.declared.StorageBox.{StorageBox}
use Rattle.register.specs.declared.ReadDone.{ReadDone}
use Rattle.register.specs.declared.WriteDone.{WriteDone}
use Rattle.register.proofs.DepartmentLaws.{same_or_not, box_own, box_other, register_moved}
use Rattle.register.proofs.RegisterLaws.{ReadCase, outranked, answered, read_case, takes_means}
use Rattle.floor.specs.Floors.{box_at, row_at, register_at, InUse}
use Rattle.floor.specs.Effects.{served_by}
use Rattle.floor.specs.Step.{apply_of}
use Rattle.floor.specs.Moves.{Grown, BoxMove, ServesNow, box_kept, box_serves, box_stops, box_returns}
use Rattle.floor.specs.declared.Floor.{Floor}
use Rattle.commands.specs.declared.Outcome.{Outcome}
use Rattle.commands.specs.declared.Command.{Command}
use Rattle.requests.specs.declared.Phase.{Phase}
use Rattle.requests.specs.declared.Phase.TheVariants.{Read, Write}
use Rattle.base.proofs.Cases.{clash}
use Rattle.attempts.specs.Rows.{row_department, register_served}
use Rattle.floor.proofs.Moves.{apply_box}

grown_same : (f : Floor) (d : Department) (x : Register) → Grown f d x x
grown_same f d x = record { read_up = le_refl x.read; write_up = le_refl x.write; read_from = inl refl; held_from = inl (refl, refl) }

module _ (f : Floor) (x : Register) (a : ℕ) (h : InUse f a) where
  abbrev Grows : Register → Type 0
  Grows y = Grown f (row_department a) x y

  grown_case : {d : ReadDone} → ReadCase x (row_at f a).rank d → Grows d.register
  grown_case (outranked _) = grown_same f _ x
  grown_case (answered l _) = record { read_up = l; write_up = le_refl x.write; read_from = inr (a, h, refl, refl); held_from = inl (refl, refl) }

  grown_read : Grows (rmw_read x (row_at f a).rank).register
  grown_read = grown_case (read_case x (row_at f a).rank)

  grown_write : Grows (rmw_write x (row_at f a).rank (row_at f a).written).register
  unfolding rmw_write
  grown_write =
      by_test (λ (w : WriteDone). Grows w.register) (takes x (row_at f a).rank) _ _
      (λ t. record {
        read_up = le_refl x.read;
        write_up = omega (arith, (takes_means x (row_at f a).rank t).1);
        read_from = inl refl;
        held_from = inr (a, h, refl, refl, refl);
      })
      (λ _. grown_same f _ x)

  grown_served : (p : Phase) → Grows (register_served p (row_at f a) x)
  grown_served Read = grown_read
  grown_served Write = grown_write

module _ {f : Floor} {c : Command} {j : ℕ} where
  -- a record changes at a serve there only
  changed : {o : Outcome} {x : StorageBox} (d : Department) → BoxMove f c j o x → (register_of d x ≡ register_at f d j) ⊎ ServesNow f d c j o
  changed d box_kept = inl refl
  changed d (box_serves {p = p} {a = a} q u t) = elim (same_or_not d (row_department a)) [
    | inl e ↦ inr (record { phase = p; attempt = a; of = sym e; command = q; not_away = t; outcome = refl })
    | inr n ↦ inl (box_other (row_department a) d (box_at f j) (register_served p (row_at f a) (served_by f a j)) (box_at f j).away n)
  ]
  changed d (box_stops q t) = inl (register_moved d (box_at f j) true)
  changed d (box_returns q t) = inl (register_moved d (box_at f j) false)

  -- a box serves for one department, and the record of the other is untouched
  grown : {o : Outcome} {x : StorageBox} (d : Department) → BoxMove f c j o x → Grown f d (register_at f d j) (register_of d x)
  grown d box_kept = grown_same f d (register_at f d j)
  grown d (box_serves {p = p} {a = a} q u t) = elim (same_or_not d (row_department a)) [
    | inl e ↦ rw (e, box_own (row_department a) (box_at f j) _ (box_at f j).away) (grown_served f (register_at f (row_department a) j) a u p)
    | inr n ↦ rw (box_other (row_department a) d (box_at f j) (register_served p (row_at f a) (served_by f a j)) (box_at f j).away n) (grown_same f d (register_at f d j))
  ]
  grown d (box_stops q t) = rw (register_moved d (box_at f j) true) (grown_same f d (register_at f d j))
  grown d (box_returns q t) = rw (register_moved d (box_at f j) false) (grown_same f d (register_at f d j))

-- the box j before and after the step, and what the step said
module _ (f : Floor) (c : Command) (j : ℕ) where
  abbrev before : StorageBox
  before = box_at f j

  abbrev after : StorageBox
  after = box_at (apply_of f c).floor j

  abbrev said : Outcome
  said = (apply_of f c).outcome

  -- a record of a box changes at a serve there only, where the box is not away
  pub record_from : (d : Department) → (register_of d after ≡ register_of d before) ⊎ ServesNow f d c j said
  record_from d = changed d (apply_box f c j)

  pub away_keeps : (d : Department) → before.away ≡ true → register_of d after ≡ register_of d before
  away_keeps d e = elim (record_from d) [ inl q ↦ q | inr x ↦ clash e x.not_away ]

  -- a box's ranks never fall, and each is its old one or that of a row in use
  pub box_grown : (d : Department) → Grown f d (register_of d before) (register_of d after)
  box_grown d = grown d (apply_box f c j)
