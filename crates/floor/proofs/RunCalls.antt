-- The calls over the loop: what turns a list of bytes back; a run of its records; a single step is a run of one.
use Prim.Native.Nat.{ℕ, ◌-◌, ◌/◌, ◌%◌, ◌<◌, ◌≤◌}
use native.Mathlib.Omega.{arith}
use mathlib.Core.Path.{◌≡◌, refl, sym, ap, ◌∙◌}
use mathlib.Core.Bool.{Bool, true, false}
use mathlib.Core.List.{List, []}
use Rattle.std.specs.Prelude.{Option, Some, None, Result, Ok, Err}
use lib.ListN.{length, take, drop}
use Rattle.base.specs.Records.{record_at, records_from, records_in}
use Rattle.base.specs.Refusals.{number, number_in}
use Rattle.base.specs.declared.Refusal.{Refusal as Refused}
use Rattle.base.proofs.RefusalLaws.{on_refused, on_accepted}
use Rattle.commands.specs.Commands.{command_of}
use Rattle.commands.specs.Outcomes.{refusal_said}
use Rattle.commands.proofs.OutcomeLaws.{on_number}
use Rattle.commands.specs.declared.Command.{Command}
use Rattle.commands.specs.declared.Outcome.TheVariants as said
use Rattle.runs.specs.Runs.{refusal_by, ran_from}
use Rattle.runs.specs.declared.Until.TheVariants.{Refusal, End}
use Rattle.runs.proofs.HandedLaws.{refused_6, refused_5, refused_0, refused_none, records_split}
use Rattle.floor.specs.Sound.{sound_of}
use Rattle.floor.specs.Step.{apply_of}
use Rattle.floor.specs.Soundness.{Sound}
use Rattle.floor.specs.Runs.{run_from, run_of, played_on, run_refusal, played_in, driven_in}
use Rattle.floor.specs.declared.Floor.{Floor}
use Rattle.floor.specs.declared.Stepped.{Stepped}
use Rattle.floor.specs.declared.Ran.{Ran}
use Rattle.floor.specs.declared.Played.{Played}
use Rattle.floor.proofs.SoundLaws.{sound_means}

-- the refusal before the first step, by its cause
module _ (f : Floor) (l : List ℕ) where
  pub run_6 : sound_of f ≡ false → 6 ≡ run_refusal f l
  unfolding run_refusal
  run_6 = refused_6 (sound_of f) (length l)

  pub run_5 : sound_of f ≡ true → ¬ (length l % 8 ≡ 0) → 5 ≡ run_refusal f l
  unfolding run_refusal
  run_5 = refused_5 (sound_of f) (length l)

  pub run_0 : sound_of f ≡ true → length l % 8 ≡ 0 → 0 ≡ run_refusal f l
  unfolding run_refusal
  run_0 = refused_0 (sound_of f) (length l)

  -- where it is 0 neither applies
  pub run_may : run_refusal f l ≡ 0 → (sound_of f ≡ true) × (length l % 8 ≡ 0)
  unfolding run_refusal
  run_may = refused_none (sound_of f) (length l)

  -- from what the code asked for, whether the floor is sound
  pub run_asked : {A : Type 0} (x : Result A Refused) {t : Bool} → number_in x ≡ refusal_by t (length l) → t ≡ sound_of f → number_in x ≡ run_refusal f l
  unfolding run_refusal
  run_asked x ex et = ex ∙ ap (λ (t : Bool). refusal_by t (length l)) et

  module _ {A : Type 0} (x : Result A Refused) (ex : number_in x ≡ run_refusal f l) where
    refused_number : (r : Refused) → x ≡ Err r → number r ≡ run_refusal f l
    refused_number r e = ap number_in (sym e) ∙ ex

    none_number : (a : A) → x ≡ Ok a → 0 ≡ run_refusal f l
    none_number a e = ap number_in (sym e) ∙ ex

    -- where nothing is refused the floor is sound
    pub run_sound_here : (a : A) → x ≡ Ok a → Sound f
    run_sound_here a e = sound_means f (run_may (sym (none_number a e))).0

    pub played_refused : (r : Refused) → x ≡ Err r → record { floor = f; accepted = 0; refusal = Some r } ≡ played_in f l
    unfolding played_in
    played_refused r e = on_refused (λ (r : Refused). record { floor = f; accepted = 0; refusal = Some r }) r (played_on f (records_in l)) (refused_number r e)

    pub played_whole : (a : A) → x ≡ Ok a → (y : Played) → y ≡ played_on f (records_in l) → y ≡ played_in f l
    unfolding played_in
    played_whole a e y h = on_accepted _ (none_number a e) h

    pub driven_refused : (first : List ℕ) (r : Refused) → x ≡ Err r → record { floor = f; accepted = 0; outcome = said.Refused (number r) } ≡ driven_in f first l
    unfolding driven_in
    driven_refused first r e = on_number (λ (k : ℕ). record { floor = f; accepted = 0; outcome = said.Refused k }) r (run_of End f first (records_in l)) (refused_number r e)

    pub driven_whole : (first : List ℕ) (a : A) → x ≡ Ok a → (y : Ran) → y ≡ run_of End f first (records_in l) → y ≡ driven_in f first l
    unfolding driven_in
    driven_whole first a e y h = on_accepted _ (none_number a e) h

-- no record
pub played_none : (f : Floor) (l : List ℕ) → length l < 8 → record { floor = f; accepted = 0; refusal = None } ≡ played_on f (records_in l)
unfolding played_on records_from
played_none f l h = let none : length l / 8 ≡ 0 = omega arith in rw none refl

abbrev of_ran : Ran → Played
of_ran x = record { floor = x.floor; accepted = x.accepted; refusal = refusal_said x.outcome }

-- the bytes behind the first record
module _ (l : List ℕ) (h : 8 ≤ length l) where
  pub played_some : (f : Floor) (c : Command) (x : Ran) (r : Option Refused) → c ≡ command_of (record_at l 0)
      → x ≡ run_from Refusal 0 f c (records_in (take (length l - 8) (drop 8 l))) → r ≡ refusal_said x.outcome
      → record { floor = x.floor; accepted = x.accepted; refusal = r } ≡ played_on f (records_in l)
  unfolding played_on
  played_some f c x r ec ex er = rw (er, records_split l h, ← ec) (ap of_ran ex)

-- a run of one command is its step
abbrev pub of_step : Ran → Stepped
of_step x = record { floor = x.floor; outcome = x.outcome }

pub run_one : (f : Floor) (c : Command) → of_step (run_from End 0 f c (records_in [])) ≡ apply_of f c
unfolding ran_from records_from
run_one f c = refl
