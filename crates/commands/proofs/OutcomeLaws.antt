-- What is no refusal has the number 0; what is refused with the number of a refusal says that refusal by name.
use Prim.Native.Nat.{ℕ}
use mathlib.Core.Path.{◌≡◌, refl, ap}
use mathlib.Core.Bool.{Bool, true, false}
use lib.Dec.{eqb}
use Rattle.std.specs.Prelude.{Some}
use Rattle.base.specs.Choice.{when◌then◌else◌}
use Rattle.base.proofs.Cases.{clash}
use Rattle.base.proofs.Choices.{on_false, by_test}
use Rattle.base.proofs.RefusalLaws.{number_some, named_number}
use Rattle.base.specs.Refusals.{number, named, number_if}
use Rattle.base.specs.declared.Refusal.{Refusal}
use Rattle.commands.specs.Outcomes.{number_of, refusal_said, is_refused}
use Rattle.commands.specs.declared.Outcome.{Outcome}
use Rattle.commands.specs.declared.Outcome.TheVariants.{Begun, Served, Received, Aborted, WriteIssued, Decided, Stopped, Gone, Back, Refused}

pub accepted_number : (o : Outcome) → is_refused o ≡ false → number_of o ≡ 0
accepted_number (Begun a) e = refl
accepted_number (Served a) e = refl
accepted_number (Received a) e = refl
accepted_number (Aborted a) e = refl
accepted_number (WriteIssued v) e = refl
accepted_number (Decided v) e = refl
accepted_number (Stopped b) e = refl
accepted_number (Gone s) e = refl
accepted_number (Back b) e = refl
accepted_number (Refused k) e = clash refl e

pub number_said : (o : Outcome) → (is_refused o ≡ true → number (named (number_of o)) ≡ number_of o) → number_if (refusal_said o) ≡ number_of o
number_said (Begun a) h = refl
number_said (Served a) h = refl
number_said (Received a) h = refl
number_said (Aborted a) h = refl
number_said (WriteIssued v) h = refl
number_said (Decided v) h = refl
number_said (Stopped b) h = refl
number_said (Gone s) h = refl
number_said (Back b) h = refl
number_said (Refused k) h = h refl

-- what is refused with the number of a refusal says that refusal
pub refusal_named : (r : Refusal) → refusal_said (Refused (number r)) ≡ Some r
refusal_named r = ap Some (named_number r)

-- k is 0 or the number of a refusal; a chain of tests gives such a number where each test does
abbrev pub Numbering : ℕ → Type 0
Numbering k = ¬ (k ≡ 0) → number (named k) ≡ k

pub numbering_or : (t : Bool) (k x : ℕ) → Numbering k → Numbering x → Numbering (when t then k else x)
numbering_or t k x e h = by_test Numbering t k x (λ _. e) (λ _. h)

-- a choice by a refusal's number k, 0 where nothing is refused
pub on_number : {A : Type 0} (f : ℕ → A) (r : Refusal) {k : ℕ} (x : A) → number r ≡ k → f (number r) ≡ when eqb k 0 then x else f k
on_number f r x e = on_false x (rw (← e) (number_some r)) (ap f e)
