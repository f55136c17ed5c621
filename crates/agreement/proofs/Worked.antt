-- Document 01's examples I and J, and lists of the wishes of document 02, in the words of demand 3, so that the claim is not about nothing.
use Rattle.std.proofs.Common.{None, Some}
use Prim.Native.Nat.{ℕ, zero, suc, ◌<◌, ◌+◌, ◌*◌}
use native.Mathlib.Omega.{arith}
use mathlib.Core.Path.{◌≡◌, refl, sym, ap, ◌∙◌, subst}
use mathlib.Core.Logic.{◌⊎◌, inl, inr}
use mathlib.Core.Bool.{Bool, true, false, not}
use mathlib.Core.List.{[], ◌∷◌}
use lib.ListN.{length}
use lib.Dec.{eqb, leb}
use lib.Count.{ones, ones_in}
use borrow.Author.Tests.{leb-true, eqb-true, not-true}
use Rattle.suits.specs.Suits as suits
use Rattle.suits.specs.Suits.{FourBytes}
use Rattle.suits.specs.declared.Suit.{Suit}
use Rattle.base.specs.Choice.{when◌then◌else◌}
use Rattle.base.specs.Numbers.{sizes_right, quorum}
use Rattle.base.specs.Mask.{bit, set_bit, count_below}
use Rattle.base.specs.Quorum.{count}
use Rattle.base.proofs.Cases.{clash, by_cases, up_to}
use Rattle.base.proofs.Choices.{on_true, on_false, both_true}
use Rattle.register.specs.Register.{outranks, rmw_read, rmw_write, takes}
use Rattle.requests.specs.Requests.{standing, waiting_below, at_quorum, still_yes, all_yes, read_verdict, write_verdict}
use Rattle.requests.specs.declared.Phase.TheVariants.{Read, Write}
use Rattle.base.specs.Departments.{departments_wrong, not_departments, not_department}
use Rattle.register.specs.declared.Department.TheVariants.{Sails, Canvas}
use Rattle.runs.specs.Runs.{state_at}
use Rattle.floor.specs.Sound.{stations_below, share_sound, sound_of}
use Rattle.floor.specs.Floors.{box_at, department_at, used_of, InUse, department_from, stations_told, new_floor_of}
use Rattle.floor.specs.declared.Floor.{Floor}
use Rattle.attempts.proofs.RowDepartments.{sails_row}
use Rattle.floor.proofs.UseLaws.{of_use}
use Rattle.floor.proofs.AwayLaws.{is_move}
use Rattle.commands.specs.Commands.{all_zero, spared, command_of}
use Rattle.floor.specs.Free.{still_served, all_served, free_in, is_free, next_row}
use Rattle.attempts.specs.Rows.{row_department, new_row, waits_at, used_after, better, higher, best_of, revision_from, revision_of, issued}
use Rattle.floor.specs.Refusals.{begin_refusal, serve_refusal, deliver_refusal, stop_refusal, return_refusal}
use Rattle.floor.specs.Effects.{delivered_on}
use Rattle.floor.specs.Step.{play_of, apply_of, step_of}
use Rattle.commands.specs.declared.Command.TheVariants.{Begin, Serve, Deliver}
use Rattle.commands.specs.declared.Outcome.{Outcome}
use Rattle.commands.specs.declared.Outcome.TheVariants as said
use Rattle.solo.specs.Solo.{solo_of}
use Rattle.floor.specs.Runs.{command_at}
use Rattle.agreement.specs.Words.{Attempt, ServedAt, DecidesAt, AbortsAt, OutrankedAt, never, IdleAt, attempts_before, unused}
use Rattle.agreement.specs.Demand.{shown_at, DrivenAlone, trace_of}
use Rattle.floor.specs.Runs.{floor_at, floor_left, said_at}
use Rattle.agreement.specs.ComeBack.{AwayFrom}
use Rattle.agreement.specs.Worked.{single, one, example_i, stops, outranked_read, both, two, withdrawn, pair, came_back, one_back, three, five, held_at, held_for, Worked}
use Rattle.agreement.proofs.GivenBack.{given_back}
use Rattle.agreement.proofs.Demand.{demand3}
use Rattle.agreement.proofs.Consequences.{consequences}
use Rattle.agreement.proofs.Reuse.{used_up, alone_reused}

-- boxes 2, 3 and 4, which answer behind `stops`
abbrev answering : ℕ → Bool
answering b = leb 2 b

-- those that answer behind `one_back`
abbrev answering_back : ℕ → Bool
answering_back b = not (box_at (floor_at five one_back 4) b).away

-- What was said in example I that a solo finish behind it asks about, as a number: which attempt was begun, from 1; 100 where a box
-- was put away or brought back or a station left
abbrev noted : Outcome → ℕ
noted (said.Begun a) = suc a
noted (said.Served a) = 0
noted (said.Received a) = 0
noted (said.Aborted a) = 0
noted (said.WriteIssued v) = 0
noted (said.Decided v) = 0
noted (said.Stopped b) = 100
noted (said.Gone s) = 100
noted (said.Back b) = 100
noted (said.Refused k) = 0

-- attempt 0 at the step 0 and attempt 1 at the step 5
unfoldable expected : ℕ → ℕ
expected k = when eqb k 0 then 1 else when eqb k 5 then 2 else 0

-- up to the step k
unfoldable as_expected : ℕ → Bool
as_expected zero = true
as_expected (suc k) = when eqb (noted (said_at three example_i k)) (expected k) then as_expected k else false

-- What is computed: steps of the two lists, and of the floors behind them.
record Computed : Type 0 where
  decided : said_at three example_i 13 ≡ said.Decided (suits.single 9)
  aborted : said_at three example_i 17 ≡ said.Aborted 0
  malformed : said_at three example_i 19 ≡ said.Refused 7
  over : said_at three example_i 20 ≡ said.Refused 10
  shown : shown_at three example_i 1 (length example_i) ≡ Some (suits.single 9)
  none : shown_at three example_i 0 (length example_i) ≡ None
  attempts : attempts_before (trace_of three example_i) Sails (length example_i) ≡ 2
  -- the read of attempt 1 is served at box 1
  asked : command_at example_i 6 ≡ Serve Read 1 1
  served : said_at three example_i 6 ≡ said.Served 1
  begins : command_at example_i 5 ≡ Begin 1 1 (suits.single 9)
  begun : said_at three example_i 5 ≡ said.Begun 1
  told : (command_at outranked_read 4 ≡ Deliver Read 0 0) × (said_at three outranked_read 4 ≡ said.Aborted 0)
  freed : (0 < used_of (floor_at one single 5) Sails) × (is_free (floor_at one single 5) 0 ≡ true)
  unfreed : is_free (floor_at one single 4) 0 ≡ false
  stop0 : said_at five stops 0 ≡ said.Stopped 0
  stop1 : said_at five stops 1 ≡ said.Stopped 1
  sizes : (five.n ≡ 5) × (five.m ≡ 1)
  enough : count answering 5 ≡ 3
  sails : (department_at five 0 ≡ Sails) × (department_at three 0 ≡ Sails)
  first_decided : said_at two both 8 ≡ said.Decided (suits.single 7)
  second_decided : said_at two both 9 ≡ said.Decided (suits.single 9)
  both_held : (held_for Sails ≡ suits.single 7) × (held_for Canvas ≡ suits.single 9)
  undecided : shown_at pair withdrawn 0 4 ≡ None
  withdrawn_decided : (said_at pair withdrawn 4 ≡ said.Decided (suits.single 0)) × (shown_at pair withdrawn 0 5 ≡ Some (suits.single 0))
  withdrawn_again : (said_at pair withdrawn 7 ≡ said.WriteIssued (suits.single 0)) × (said_at pair withdrawn 9 ≡ said.Decided (suits.single 0))
  withdrawn_over : said_at pair withdrawn 10 ≡ said.Refused 10
  begun_none : attempts_before (trace_of five stops) Sails 2 ≡ 0
  put : said_at three came_back 3 ≡ said.Stopped 1
  waited : said_at three came_back 4 ≡ said.Refused 13
  still_away : (box_at (floor_at three came_back 5) 1).away ≡ true
  brought : said_at three came_back 5 ≡ said.Back 1
  served_then : (said_at three came_back 6 ≡ said.Served 0) × ((box_at (floor_at three came_back 6) 1).away ≡ false)
  issued_then : said_at three came_back 7 ≡ said.WriteIssued (suits.single 7)
  refused_then : said_at three came_back 8 ≡ said.Refused 23
  moved : (is_move (said_at five one_back 0) ≡ true) × (is_move (said_at five one_back 1) ≡ true) × (is_move (said_at five one_back 2) ≡ true) × (is_move (said_at five one_back 3) ≡ true)
  enough_back : count answering_back 5 ≡ 3
  none_begun : attempts_before (trace_of five one_back) Sails 4 ≡ 0
  -- behind example I: boxes 1 and 2 hold the revision of attempt 1, and box 0 that of attempt 0
  first : (command_at example_i 0 ≡ Begin 0 1 (suits.single 7)) × (said_at three example_i 0 ≡ said.Begun 0)
  abort : command_at example_i 17 ≡ Deliver Write 0 1
  noted_all : as_expected (length example_i) ≡ true
  held : (held_at 0 ≡ suits.single 7) × (held_at 1 ≡ suits.single 9) × (held_at 2 ≡ suits.single 9)
  all : (three.n ≡ 3) × (three.m ≡ 2) × (count (λ b. true) 3 ≡ 3)

computed : Computed
unfolding state_at count as_expected expected when◌then◌else◌ sizes_right departments_wrong not_departments not_department department_from stations_told new_floor_of step_of apply_of play_of sound_of share_sound stations_below row_department command_of all_zero spared begin_refusal serve_refusal deliver_refusal stop_refusal return_refusal standing bit set_bit count_below ones ones_in at_quorum new_row next_row used_after free_in all_served still_served waits_at waiting_below outranks rmw_read rmw_write takes delivered_on better higher best_of revision_from revision_of issued still_yes all_yes read_verdict write_verdict
computed = record {
  decided = refl;
  aborted = refl;
  malformed = refl;
  over = refl;
  shown = refl;
  none = refl;
  attempts = refl;
  asked = refl;
  served = refl;
  begins = refl;
  begun = refl;
  told = (refl, refl);
  freed = (omega arith, refl);
  unfreed = refl;
  stop0 = refl;
  stop1 = refl;
  sizes = (refl, refl);
  enough = refl;
  sails = (refl, refl);
  first_decided = refl;
  second_decided = refl;
  both_held = (refl, refl);
  undecided = refl;
  withdrawn_decided = (refl, refl);
  withdrawn_again = (refl, refl);
  withdrawn_over = refl;
  begun_none = refl;
  put = refl;
  waited = refl;
  still_away = refl;
  brought = refl;
  served_then = (refl, refl);
  issued_then = refl;
  refused_then = refl;
  moved = (refl, refl, refl, refl);
  enough_back = refl;
  none_begun = refl;
  first = (refl, refl);
  abort = refl;
  noted_all = refl;
  held = (refl, refl, refl);
  all = (refl, refl, refl);
}

rank_17 : ServedAt (trace_of three example_i) Sails 17 1 6
rank_17 = record {
  attempt = record { at = 5; station = 1; round = 1; offer = suits.single 9; number = 1; asked = computed.begins; begun = computed.begun };
  of = sails_row 1 (omega arith);
  rank = refl;
  phase = Read;
  serves = record { named = record { earlier = omega arith; last = λ k h u. absurd (omega arith) }; asked = computed.asked; accepted = computed.served };
}

-- by the claims: a station decided, and a rank above that of attempt 0 was served before it aborted
decides : (s : ℕ) × DecidesAt (trace_of three example_i) s (suits.single 9) 13
decides = let d = (consequences 3 2 (0 ∷ 0 ∷ []) example_i).station 13 (suits.single 9) computed.decided in (d.0, d.2)

outranked : OutrankedAt (trace_of three example_i) 17
outranked = ((demand3 3 2 (0 ∷ 0 ∷ []) example_i).safety Sails).abort 17 0 (sails_row 0 (omega arith)) computed.aborted

outranked_read_lem : OutrankedAt (trace_of three outranked_read) 4
outranked_read_lem = ((demand3 3 2 (0 ∷ 0 ∷ []) outranked_read).safety Sails).abort 4 0 (sails_row 0 (omega arith)) computed.told.1

-- both steps of `stops` stop a box below 2, and nothing else was said
only_stops : (k : ℕ) (o : Outcome) → k < 2 → said_at five stops k ≡ o → (b : ℕ) × (b < 2) × (o ≡ said.Stopped b)
only_stops zero o h e = (0, omega arith, sym e ∙ computed.stop0)
only_stops (suc zero) o h e = (1, omega arith, sym e ∙ computed.stop1)
only_stops (suc (suc k)) o h e = absurd (omega arith)

idle : IdleAt (trace_of five stops) 0 2
idle = record {
  here = λ x. let e = (only_stops x.at _ x.earlier x.holds).2 in let z : ◌≡◌ {A = ℕ} 0 1 = cc in omega arith;
  undecided = λ v x. let e = (only_stops x.at _ x.earlier x.holds.by.says.said).2 in let z : ◌≡◌ {A = ℕ} 0 1 = cc in omega arith;
  aborted = λ x h _. absurd (let e = (only_stops x.at _ h x.begun).2 in let z : ◌≡◌ {A = ℕ} 0 1 = cc in omega arith);
}

no_attempt : (x : Attempt (trace_of five stops)) → ¬ (x.at < 2)
no_attempt x h = let e = (only_stops x.at _ h x.begun).2 in let z : ◌≡◌ {A = ℕ} 0 1 = cc in omega arith

-- how many steps a station driven alone takes with n boxes
abbrev steps_for : ℕ → ℕ
steps_for n = 4 * quorum n + 1

-- with 2 of 5 boxes away, whatever revision station 0 offers
alone : (v : Suit) → FourBytes v → DrivenAlone five stops 0 v 13 (solo_of (floor_left five stops) 0 v)
alone v q =
    subst (λ (k : ℕ). DrivenAlone five stops 0 v k (solo_of (floor_left five stops) 0 v)) (ap steps_for computed.sizes.0)
    ((demand3 5 1 (0 ∷ []) stops).solo 0 v (omega (arith, computed.sizes.1)) idle
    (record {
      set = answering;
      large = rw computed.sizes.0 (omega (arith, computed.enough));
      each = λ b h t. never (λ x. let o = only_stops x.at _ x.earlier x.holds in let e : b ≡ o.0 = cc o.2 in omega (arith, leb-true 2 b t, o.1));
    })
    (unused (rw computed.sails.0 (omega (arith, computed.begun_none))))
    (record { round = 1; least = omega arith; most = omega arith; outranks = λ x h _. absurd (no_attempt x h) })
    q)

-- Boxes that come back.
away_from : AwayFrom (trace_of three came_back) 1 3 5
away_from = record {
  put = computed.put;
  later = omega arith;
  back = computed.brought;
  between = λ k h u e. let q : k ≡ 4 = omega arith in let r : said.Refused 13 ≡ said.Back 1 = sym computed.waited ∙ ap (said_at three came_back) (sym q) ∙ e in let z : ◌≡◌ {A = ℕ} 0 1 = cc in omega arith;
}

-- every step of `one_back` moves a box, and nothing else was said
only_moves : (k : ℕ) → k < 4 → (o : Outcome) → said_at five one_back k ≡ o → is_move o ≡ true
only_moves zero h o e = ap is_move (sym e) ∙ computed.moved.0
only_moves (suc zero) h o e = ap is_move (sym e) ∙ computed.moved.1
only_moves (suc (suc zero)) h o e = ap is_move (sym e) ∙ computed.moved.2
only_moves (suc (suc (suc zero))) h o e = ap is_move (sym e) ∙ computed.moved.3
only_moves (suc (suc (suc (suc k)))) h o e = absurd (omega arith)

idle_back : IdleAt (trace_of five one_back) 0 4
idle_back = record {
  here = λ x. clash (only_moves x.at x.earlier _ x.holds) refl;
  undecided = λ v x. clash (only_moves x.at x.earlier _ x.holds.by.says.said) refl;
  aborted = λ x h _. clash (only_moves x.at h _ x.begun) refl;
}

alone_back : (v : Suit) → FourBytes v → DrivenAlone five one_back 0 v 13 (solo_of (floor_left five one_back) 0 v)
alone_back v q =
    subst (λ (k : ℕ). DrivenAlone five one_back 0 v k (solo_of (floor_left five one_back) 0 v)) (ap steps_for computed.sizes.0)
    ((demand3 5 1 (0 ∷ []) one_back).solo 0 v (omega (arith, computed.sizes.1)) idle_back
    (record {
      set = answering_back;
      large = rw computed.sizes.0 (omega (arith, computed.enough_back));
      each = λ b h t. (consequences 5 1 (0 ∷ []) one_back).answers b 4 (not-true _ t);
    })
    (unused (rw computed.sails.0 (omega (arith, computed.none_begun))))
    (record { round = 1; least = omega arith; most = omega arith; outranks = λ x h _. clash (only_moves x.at h _ x.begun) refl })
    q)

-- Behind example I, where it is hard: station 0 is idle after its abort, and the boxes hold revisions, two of them another's.
noted_upto : (n k : ℕ) → as_expected n ≡ true → k < n → noted (said_at three example_i k) ≡ expected k
unfolding as_expected
noted_upto zero k e h = absurd (omega arith)
noted_upto (suc n) k e h =
    let t = both_true _ _ e in
    elim (up_to h) [
      | inl q ↦ ap (λ (j : ℕ). noted (said_at three example_i j)) q ∙ eqb-true _ _ t.0 ∙ ap expected (sym q)
      | inr q ↦ noted_upto n k t.1 q
    ]

noted_at : (k : ℕ) → k < 21 → (o : Outcome) → said_at three example_i k ≡ o → noted o ≡ expected k
noted_at k h o e = ap noted (sym e) ∙ noted_upto 21 k computed.noted_all h

expected_is : (k : ℕ) → ((k ≡ 0) × (expected k ≡ 1)) ⊎ ((k ≡ 5) × (expected k ≡ 2)) ⊎ (expected k ≡ 0)
unfolding expected
expected_is k =
    by_cases (eqb k 0) (λ t. inl (eqb-true k 0 t, sym (on_true _ t refl)))
    (λ t. by_cases (eqb k 5) (λ u. inr (inl (eqb-true k 5 u, sym (on_false _ t (on_true _ u refl))))) (λ u. inr (inr (sym (on_false _ t (on_false _ u refl))))))

begun_at : (k a : ℕ) → k < 21 → said_at three example_i k ≡ said.Begun a → ((k ≡ 0) × (a ≡ 0)) ⊎ ((k ≡ 5) × (a ≡ 1))
begun_at k a h e =
    let q = noted_at k h (said.Begun a) e in
    elim (expected_is k) [
      | inl x ↦ inl (x.0, omega (arith, q, x.1))
      | inr x ↦ elim x [ inl y ↦ inr (y.0, omega (arith, q, y.1)) | inr y ↦ absurd (omega (arith, q, y)) ]
    ]

nobody_left : (k : ℕ) → k < 21 → (o : Outcome) → noted o ≡ 100 → ¬ (said_at three example_i k ≡ o)
nobody_left k h o n e =
    let q = noted_at k h o e in
    elim (expected_is k) [
      | inl x ↦ omega (arith, q, n, x.1)
      | inr x ↦ elim x [ inl y ↦ omega (arith, q, n, y.1) | inr y ↦ omega (arith, q, n, y) ]
    ]

-- the attempts of example I: that of station 0 at the step 0, and that of station 1 at the step 5
attempt_is : (x : Attempt (trace_of three example_i)) → x.at < 21
    → ((x.at ≡ 0) × (x.number ≡ 0) × (x.station ≡ 0) × (x.round ≡ 1)) ⊎ ((x.at ≡ 5) × (x.number ≡ 1) × (x.station ≡ 1) × (x.round ≡ 1))
attempt_is x h = elim (begun_at x.at x.number h x.begun) [
  | inl o ↦ (let c : Begin x.station x.round x.offer ≡ Begin 0 1 (suits.single 7) = sym x.asked ∙ ap (command_at example_i) o.0 ∙ computed.first.0 in inl (o.0, o.1, cc, cc))
  | inr o ↦ (let c : Begin x.station x.round x.offer ≡ Begin 1 1 (suits.single 9) = sym x.asked ∙ ap (command_at example_i) o.0 ∙ computed.begins in inr (o.0, o.1, cc, cc))
]

-- attempt 0 aborts at the step 17
aborts : (x : Attempt (trace_of three example_i)) → x.at ≡ 0 → x.number ≡ 0 → AbortsAt (trace_of three example_i) x 17
aborts x e n = record {
  named = record {
    earlier = omega arith;
    last = λ k h u q. elim (begun_at k x.number (omega arith) q) [ inl o ↦ omega (arith, o.0) | inr o ↦ omega (arith, o.1) ];
  };
  says = record {
    phase = Write;
    box = 1;
    asked = computed.abort ∙ ap (λ (a : ℕ). Deliver Write a 1) (sym n);
    said = computed.aborted ∙ ap said.Aborted (sym n);
  };
}

idle_behind : IdleAt (trace_of three example_i) 0 21
idle_behind = record {
  here = λ x. nobody_left x.at x.earlier (said.Gone 0) refl x.holds;
  undecided = ((demand3 3 2 (0 ∷ 0 ∷ []) example_i).shown 0 21).none computed.none;
  aborted = λ x h z. elim (attempt_is x h) [
    | inl o ↦ record { at = 17; earlier = omega arith; holds = aborts x o.0 o.1 }
    | inr o ↦ absurd (omega (arith, o.2, z))
  ];
}

-- whatever revision it offers
alone_behind : (v : Suit) → FourBytes v → DrivenAlone three example_i 0 v 9 (solo_of (floor_left three example_i) 0 v)
alone_behind v q =
    subst (λ (k : ℕ). DrivenAlone three example_i 0 v k (solo_of (floor_left three example_i) 0 v)) (ap steps_for computed.all.0)
    ((demand3 3 2 (0 ∷ 0 ∷ []) example_i).solo 0 v (omega (arith, computed.all.1)) idle_behind
    (record { set = λ b. true; large = rw computed.all.0 (omega (arith, computed.all.2)); each = λ b h t. never (λ x. nobody_left x.at x.earlier (said.Stopped b) refl x.holds) })
    (unused (rw computed.sails.1 (omega (arith, computed.attempts))))
    (record {
      round = 2;
      least = omega arith;
      most = omega arith;
      outranks = λ x h _. elim (attempt_is x h) [ inl o ↦ omega (arith, o.2, o.3) | inr o ↦ omega (arith, o.2, o.3) ];
    })
    q)

in_sails : (f : Floor) → 0 < used_of f Sails → InUse f 0
in_sails f h = of_use f Sails 0 (sails_row 0 (omega arith)) (omega arith)

pub worked : Worked
worked = record {
  decides = decides;
  served = rank_17;
  outranked = outranked;
  told = computed.told;
  outranked_read_lem = outranked_read_lem;
  free = (given_back 1 1 (0 ∷ []) single).free 0 5 (in_sails (floor_at one single 5) computed.freed.0) computed.freed.1;
  not_free = λ x. clash ((given_back 1 1 (0 ∷ []) single).free_holds 0 4 x).1 computed.unfreed;
  used_up = used_up;
  alone_reused = alone_reused;
  first_decided = computed.first_decided;
  second_decided = computed.second_decided;
  both_held = computed.both_held;
  undecided = computed.undecided;
  withdrawn_decided = computed.withdrawn_decided;
  withdrawn_again = computed.withdrawn_again;
  withdrawn_over = computed.withdrawn_over;
  away = (computed.waited, λ x. clash computed.still_away ((consequences 3 2 (0 ∷ 0 ∷ []) came_back).not_away 1 5 x));
  back = (computed.brought, computed.served_then.0, (consequences 3 2 (0 ∷ 0 ∷ []) came_back).answers 1 6 computed.served_then.1);
  went_on = computed.issued_then;
  not_away = computed.refused_then;
  away_from = away_from;
  alone_back = alone_back;
  alone = alone;
  idle_behind = idle_behind;
  held_behind = computed.held;
  alone_behind = alone_behind;
}
