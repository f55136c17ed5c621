-- What the tests of a station's state say.
use Prim.Native.Nat.{ℕ}
use mathlib.Core.Path.{◌≡◌, refl, sym, ap, subst}
use mathlib.Core.Bool.{true, false}
use borrow.Author.Tests.{eqb-true, eq-eqb}
use Rattle.requests.specs.declared.Phase.{Phase}
use Rattle.requests.specs.declared.Phase.TheVariants.{Read, Write}
use Rattle.base.proofs.Cases.{clash}
use Rattle.attempts.specs.Stations.{is_gone, is_busy, is_reading, is_writing, is_active, is_in}
use Rattle.attempts.specs.Claims.{Busy, reading, writing, decided, InAttempt, reads, writes}
use Rattle.attempts.specs.declared.State.{State}
use Rattle.attempts.specs.declared.State.TheVariants.{Idle, Reading, Writing, Decided, Gone}

-- a station that reads, or writes, in the attempt a
pub is_reading_lem : (st : State) (a : ℕ) → is_reading st a ≡ true → st ≡ Reading a
is_reading_lem Idle a e = clash e refl
is_reading_lem (Reading x) a e = ap Reading (eqb-true x a e)
is_reading_lem (Writing x) a e = clash e refl
is_reading_lem (Decided x) a e = clash e refl
is_reading_lem Gone a e = clash e refl

pub is_writing_lem : (st : State) (a : ℕ) → is_writing st a ≡ true → st ≡ Writing a
is_writing_lem Idle a e = clash e refl
is_writing_lem (Reading x) a e = clash e refl
is_writing_lem (Writing x) a e = ap Writing (eqb-true x a e)
is_writing_lem (Decided x) a e = clash e refl
is_writing_lem Gone a e = clash e refl

pub reading_holds : (a : ℕ) → is_reading (Reading a) a ≡ true
reading_holds a = eq-eqb a a refl

pub writing_holds : (a : ℕ) → is_writing (Writing a) a ≡ true
writing_holds a = eq-eqb a a refl

-- a station in the attempt a
pub is_active_lem : (st : State) (a : ℕ) → is_active st a ≡ true → InAttempt a st
is_active_lem Idle a e = clash e refl
is_active_lem (Reading x) a e = subst (λ (y : ℕ). InAttempt a (Reading y)) (sym (eqb-true x a e)) reads
is_active_lem (Writing x) a e = subst (λ (y : ℕ). InAttempt a (Writing y)) (sym (eqb-true x a e)) writes
is_active_lem (Decided x) a e = clash e refl
is_active_lem Gone a e = clash e refl

pub active_holds : (st : State) (a : ℕ) → InAttempt a st → is_active st a ≡ true
active_holds _ a reads = eq-eqb a a refl
active_holds _ a writes = eq-eqb a a refl

-- a station that is neither gone nor busy is idle
pub is_idle : (st : State) → is_gone st ≡ false → is_busy st ≡ false → st ≡ Idle
is_idle Idle g e = refl
is_idle (Reading x) g e = clash refl e
is_idle (Writing x) g e = clash refl e
is_idle (Decided x) g e = clash refl e
is_idle Gone g e = clash refl g

pub is_gone_lem : (st : State) → is_gone st ≡ true → st ≡ Gone
is_gone_lem Idle e = clash e refl
is_gone_lem (Reading x) e = clash e refl
is_gone_lem (Writing x) e = clash e refl
is_gone_lem (Decided x) e = clash e refl
is_gone_lem Gone e = refl

pub is_busy_lem : (st : State) → is_busy st ≡ true → Busy st
is_busy_lem Idle e = clash e refl
is_busy_lem (Reading x) e = reading
is_busy_lem (Writing x) e = writing
is_busy_lem (Decided x) e = decided
is_busy_lem Gone e = clash e refl

-- a station in a phase of attempt a is not gone
pub here_in : (p : Phase) (st : State) (a : ℕ) → is_in p st a ≡ true → is_gone st ≡ false
here_in Read st a e = ap is_gone (is_reading_lem st a e)
here_in Write st a e = ap is_gone (is_writing_lem st a e)
