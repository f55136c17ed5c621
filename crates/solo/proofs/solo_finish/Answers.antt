use native.Mathlib.Omega.{arith}
use Prim.Native.Nat.{ℕ}
use mathlib.Core.Path.{◌≡◌, sym, ap, ◌∙◌}
use mathlib.Core.Bool.{Bool, true}
use Rattle.base.specs.Refusals.{number_in}
use Rattle.base.specs.Choice.{when◌then◌else◌}
use Rattle.base.proofs.Choices.{chosen}
use Rattle.register.specs.Register.{of_department}
use Rattle.register.specs.declared.Department.{Department}
use Rattle.floor.specs.Floors.{department_at, highest_of}
use Rattle.floor.specs.Free.{next_row}
use Rattle.floor.specs.Effects.{row_taken}
use Rattle.floor.specs.Sound.{sound_of}
use Rattle.floor.specs.declared.Share.{Share}
use Rattle.floor.specs.declared.Floor.{Floor}
use Rattle.floor.proofs.SoundLaws.{sound_means}
use Rattle.plans.specs.Plans.{round_above}
use Rattle.solo.specs.Plan.{round_of}
use Rattle.solo.specs.Solo.{solo_of, solo_number, solo_value}
use Rattle.suits.specs.declared.Suit.{Suit}
use Rattle.solo.specs.declared.Solo.{Solo}
use Rattle.commands.specs.Outcomes.{number_of, value_of}
use Rattle.solo.proofs.FrontLaws.{front_means, solo_number_lem, solo_value_lem, ends_unsound, ends_refused, ends_driven}
use Rattle.solo.proofs.solo_finish.Goals as goal

-- the round and the row are those of the station's department
round : (f : Floor) (s : ℕ) {r : ℕ} {d : Department} {x : Share} → d ≡ department_at f s → x ≡ of_department d f.shares.sails f.shares.canvas → r ≡ round_above x.highest s → r ≡ round_of f s
round f s ed ex er = er ∙ ap (λ (k : ℕ). round_above k s) (ap (λ (y : Share). y.highest) ex ∙ ap (highest_of f) ed)

row : (f : Floor) (s : ℕ) {n : ℕ} {d : Department} → sound_of f ≡ true → d ≡ department_at f s → n ≡ (when sound_of f then next_row f d else 128) → n ≡ row_taken f s
row f s z ed en = chosen 128 z en ∙ ap (next_row f) ed

sound_here : {x t : Bool} → x ≡ t → x ≡ true → t ≡ true
sound_here e h = sym e ∙ h

-- the run that `solo_of` names has its number and its value
module _ (f : Floor) (s : ℕ) (v : Suit) {r : Solo} (e : r ≡ solo_of f s v) where
  ended_number : number_of r.outcome ≡ solo_number f s v
  ended_number = ap (λ (d : Solo). number_of d.outcome) e ∙ solo_number_lem f s v

  ended_value : value_of r.outcome ≡ solo_value f s v
  ended_value = ap (λ (d : Solo). value_of d.outcome) e ∙ solo_value_lem f s v

pub refusal-requires : goal.refusal-requires
refusal-requires c =
    let z = sound_here c.sound.ensures c.if-not-sound.false in
    let y = sound_means c.args.f z in
    (y.box_most, y.station_most, row c.args.f c.args.s z c.department_at-d.ensures c.next_row-next.ensures)

pub overflow_cast-round : goal.overflow_cast-round
overflow_cast-round c = let d = front_means _ _ _ (sym c.refusal.ensures ∙ ap number_in c.in_default.is) in omega (arith, d.left)

pub drive-requires : goal.drive-requires
drive-requires c =
    let z = sound_here c.sound.ensures c.if-not-sound.false in
    (sound_means c.args.f z, round c.args.f c.args.s c.department_at-d.ensures c.of.ensures c.round_above-round.ensures, row c.args.f c.args.s z c.department_at-d.ensures c.next_row-next.ensures)

pub returns-then-not-sound-clause-finished : goal.returns-then-not-sound-clause-finished
returns-then-not-sound-clause-finished c =
    ends_unsound _ _ _ _ (sym c.sound.ensures ∙ c.if-not-sound.true) c.turned_away.ensures

pub returns-then-not-sound-clause-number : goal.returns-then-not-sound-clause-number
returns-then-not-sound-clause-number c = ended_number _ _ _ (returns-then-not-sound-clause-finished c)

pub returns-then-not-sound-clause-value : goal.returns-then-not-sound-clause-value
returns-then-not-sound-clause-value c = ended_value _ _ _ (returns-then-not-sound-clause-finished c)

pub returns-in-Err-clause-finished : goal.returns-in-Err-clause-finished
returns-in-Err-clause-finished c =
    ends_refused _ _ _ _ _ _ (sound_here c.sound.ensures c.if-not-sound.false) (round c.args.f c.args.s c.department_at-d.ensures c.of.ensures c.round_above-round.ensures) c.refusal.ensures _ c.in-Err.is c.turned_away-in-Err.ensures

pub returns-in-Err-clause-number : goal.returns-in-Err-clause-number
returns-in-Err-clause-number c = ended_number _ _ _ (returns-in-Err-clause-finished c)

pub returns-in-Err-clause-value : goal.returns-in-Err-clause-value
returns-in-Err-clause-value c = ended_value _ _ _ (returns-in-Err-clause-finished c)

pub returns-clause-finished : goal.returns-clause-finished
returns-clause-finished c =
    ends_driven _ _ _ _ _ _ (sound_here c.sound.ensures c.if-not-sound.false) (round c.args.f c.args.s c.department_at-d.ensures c.of.ensures c.round_above-round.ensures) c.refusal.ensures _ c.in_default.is c.drive.ensures

pub returns-clause-number : goal.returns-clause-number
returns-clause-number c = ended_number _ _ _ (returns-clause-finished c)

pub returns-clause-value : goal.returns-clause-value
returns-clause-value c = ended_value _ _ _ (returns-clause-finished c)
