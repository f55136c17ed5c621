-- What is printed of a file: all lines where it has a label, which an accepted file has and a refused one has not; and fewer than 2,048 bytes.
use Rattle.std.proofs.Common.{None, Option, Some}
use Prim.Native.Nat.{ℕ, zero, suc, ◌+◌, ◌*◌, ◌≤◌}
use native.Mathlib.Omega.{arith}
use mathlib.Core.Path.{◌≡◌, refl, sym, ap, ◌∙◌}
use mathlib.Core.List.{List, []}
use lib.Dec.{eqb}
use lib.ListN.{length, length-append}
use borrow.Author.Tests.{eq-eqb, ne_eqb, eqb-true, eqb-false}
use Rattle.base.specs.Refusals.{number_if}
use Rattle.base.proofs.Cases.{by_cases}
use Rattle.base.proofs.Choices.{on_true, on_false}
use Rattle.attempts.specs.declared.State.{State}
use Rattle.attempts.specs.declared.State.TheVariants as state
use Rattle.attempts.specs.declared.Station.{Station}
use Rattle.suits.specs.declared.Suit.{Suit}
use Rattle.floor.specs.Floors.{station_at}
use Rattle.floor.specs.declared.Floor.{Floor}
use Rattle.floor.specs.declared.Played.{Played}
use Rattle.floor.proofs.EmptyFloors.{new_sound}
use Rattle.floor.proofs.ListLaws.{sound_at}
use Rattle.drill_file.specs.DrillFile.{file_refusal, label_of, records_of}
use Rattle.drill_file.proofs.LayoutLaws.{accepted_parts}
use Rattle.player.specs.Play.{played_of, last_rank}
use Rattle.player.proofs.PlayLaws.{played_refused, refused_named, player_claims}
use Rattle.drill.specs.Report.{state_word, decision_word, panel_line, station_line, station_lines, end_line, lines_of, report_of}
use Rattle.drill.specs.Text.{text_put}
use Rattle.drill.proofs.Decimals.{digits_few}
use Rattle.drill.proofs.TextLaws.{put_whole}

-- how long the words and the lines are at most
state_few : (x : State) → length (state_word x) ≤ 7
state_few state.Idle = omega arith
state_few (state.Reading a) = omega arith
state_few (state.Writing a) = omega arith
state_few (state.Decided a) = omega arith
state_few state.Gone = omega arith

decision_few : (x : Option Suit) → length (decision_word x) ≤ 20
decision_few None = omega arith
decision_few (Some v) = digits_few 20 v.r0

panel_few : (label : List ℕ) (n m : ℕ) → length (panel_line label n m) ≤ 64 + length label
unfolding panel_line
panel_few label n m = simp length-append (omega (arith, digits_few 20 n, digits_few 20 m))

station_few : (number : ℕ) (x : Station) → length (station_line number x) ≤ 79
unfolding station_line
station_few number x =
    simp length-append (omega (arith, digits_few 20 number, digits_few 20 (last_rank x.last number), state_few x.state, decision_few x.decided))

stations_few : (f : Floor) (m : ℕ) → length (station_lines f m) ≤ 79 * m
unfolding station_lines
stations_few f zero = omega arith
stations_few f (suc m) = simp length-append (omega (arith, stations_few f m, station_few m (station_at f m)))

end_few : (steps refusal : ℕ) → length (end_line steps refusal) ≤ 46
unfolding end_line
end_few steps refusal = simp length-append (omega (arith, digits_few 20 steps, digits_few 20 refusal))

-- which lines are printed of a file
module _ (s : List ℕ) where
  pub report_lines : file_refusal s ≡ 0 → report_of s ≡ lines_of (label_of s) (played_of s)
  unfolding report_of
  report_lines e = sym (on_true _ (eq-eqb _ _ e) refl)

  pub report_end : ¬ (file_refusal s ≡ 0) → report_of s ≡ end_line 0 (file_refusal s)
  unfolding report_of
  report_end h = sym (on_false _ (ne_eqb _ _ h) refl)

  -- a floor that a file was played on has at most 16 stations
  played_stations : file_refusal s ≡ 0 → (played_of s).floor.m ≤ 16
  played_stations e = rw (player_claims.accepted s e).left (sound_at _ (records_of s) (new_sound _ _ _) _).station_most

  lines_few : file_refusal s ≡ 0 → length (lines_of (label_of s) (played_of s)) ≤ 2048
  unfolding lines_of
  lines_few e =
      let p = played_of s in
      simp length-append
      (omega (
        arith,
        panel_few (label_of s) p.floor.n p.floor.m,
        stations_few p.floor p.floor.m,
        end_few p.accepted (number_if p.refusal),
        played_stations e,
        (accepted_parts s e).labelled.1,
      ))

  pub report_few : length (report_of s) ≤ 2048
  report_few = by_cases (eqb (file_refusal s) 0)
      (λ t. rw (report_lines (eqb-true _ _ t)) (lines_few (eqb-true _ _ t)))
      (λ t. rw (report_end (eqb-false _ _ t)) (omega (arith, end_few 0 (file_refusal s))))

-- the label and the run, as the program has them
module _ (s l : List ℕ) (p : Played) (label : l ≡ label_of s) (run : p ≡ played_of s) where
  -- a file that is refused has no label
  refused_label : ¬ (file_refusal s ≡ 0) → length l ≡ 0
  unfolding label_of
  refused_label h = ap (λ (x : List ℕ). length x) (label ∙ sym (on_false _ (ne_eqb _ _ h) refl))

  accepted : ¬ (length l ≡ 0) → file_refusal s ≡ 0
  accepted h = by_cases (eqb (file_refusal s) 0) (eqb-true _ _) (λ t. absurd (h (refused_label (eqb-false _ _ t))))

  refused : length l ≡ 0 → ¬ (file_refusal s ≡ 0)
  refused h e = omega (arith, (accepted_parts s e).labelled.0, ap (λ (x : List ℕ). length x) label)

  pub stations_most : ¬ (length l ≡ 0) → p.floor.m ≤ 16
  stations_most h = rw run (played_stations s (accepted h))

  -- the end line alone, and all lines, are the text
  pub end_put : length l ≡ 0 → text_put [] (end_line p.accepted (number_if p.refusal)) ≡ report_of s
  end_put h =
      put_whole _ (omega (arith, end_few p.accepted (number_if p.refusal)))
      ∙ rw (run, played_refused s (refused h), refused_named s (refused h)) (sym (report_end s (refused h)))

  pub lines_put : ¬ (length l ≡ 0) → text_put [] (lines_of l p) ≡ report_of s
  lines_put h =
      let all : lines_of l p ≡ report_of s = rw (label, run) (sym (report_lines s (accepted h))) in
      rw all (put_whole (report_of s) (report_few s))
