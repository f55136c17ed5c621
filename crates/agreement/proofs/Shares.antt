-- What each department has begun, read off the list: its attempts, its rows in use, its highest rank.
use Prim.Native.Nat.{ℕ, zero, suc, ◌<◌, ◌≤◌, max}
use native.Mathlib.Omega.{arith}
use mathlib.Core.Path.{◌≡◌, refl, sym, ap, subst, ◌∙◌}
use mathlib.Core.Logic.{◌⊎◌, inl, inr}
use mathlib.Core.Bool.{true, false}
use mathlib.Core.List.{List}
use native.Mathlib.Decide.{dec_lt}
use Rattle.base.specs.Numbers.{rank_of}
use Rattle.base.specs.Quorum.{count, indicator}
use Rattle.register.specs.declared.Department.{Department}
use Rattle.register.proofs.DepartmentLaws.{is_same, same_is}
use Rattle.attempts.specs.Rows.{row_department, used_after}
use Rattle.runs.specs.Runs.{state_at}
use Rattle.floor.specs.Floors.{department_at, share_of, used_of, highest_of}
use Rattle.floor.specs.Effects.{row_taken}
use Rattle.floor.specs.declared.Share.{Share}
use Rattle.floor.proofs.FreeLaws.{next_own}
use Rattle.attempts.proofs.UsedLaws.{used_more, used_full}
use Rattle.commands.specs.declared.Command.TheVariants.{Begin}
use Rattle.floor.specs.Step.{step_of}
use Rattle.floor.specs.declared.Floor.{Floor}
use Rattle.commands.specs.declared.Outcome.{Outcome}
use Rattle.commands.specs.declared.Outcome.TheVariants as said
use Rattle.base.proofs.Cases.{clash, by_cases, up_to}
use Rattle.floor.proofs.RowLaws.{apply_share}
use Rattle.floor.specs.Runs.{command_at}
use Rattle.agreement.specs.Words.{begun_in, Attempt, attempt_rank, attempt_department, attempts_before, RoundLeft}
use Rattle.agreement.specs.GivenBack.{HighestAt}
use Rattle.floor.specs.Runs.{floor_at, said_at}
use Rattle.agreement.proofs.Positions.{means_at}
use Rattle.agreement.specs.Demand.{trace_of}
use Rattle.floor.proofs.Outcomes.{begun_share}
use Rattle.floor.proofs.Reached.{New, department_at_lem}

-- the larger of two is one of them
max_choice : (m n : ℕ) → (max m n ≡ m) ⊎ (max m n ≡ n)
max_choice m n = elim (dec_lt m n) [ yes h ↦ inr (omega arith) | no h ↦ inl (omega arith) ]

-- what it means that an attempt of the department was begun
begun_some : (d : Department) (o : Outcome) → begun_in d o ≡ true → (a : ℕ) × (o ≡ said.Begun a) × (row_department a ≡ d)
begun_some d (said.Begun a) e = (a, refl, sym (is_same d (row_department a) e))
begun_some d (said.Served a) e = clash e refl
begun_some d (said.Received a) e = clash e refl
begun_some d (said.Aborted a) e = clash e refl
begun_some d (said.WriteIssued v) e = clash e refl
begun_some d (said.Decided v) e = clash e refl
begun_some d (said.Stopped b) e = clash e refl
begun_some d (said.Gone s) e = clash e refl
begun_some d (said.Back b) e = clash e refl
begun_some d (said.Refused k) e = clash e refl

module _ (f : Floor) (l : List (List ℕ)) (new : New f) where
  -- the attempts of a station are of its department
  pub own_department : (x : Attempt (trace_of f l)) → attempt_department (trace_of f l) x ≡ department_at f x.station
  own_department x =
      let i = x.at in
      let b = means_at f l new i (said.Begun x.number) x.begun in
      let s : b.station ≡ x.station = cc (b.command, x.asked) in
      ap row_department b.next ∙ next_own (floor_at f l i) (department_at (floor_at f l i) b.station) b.may.row
      ∙ ap (department_at (floor_at f l i)) s ∙ department_at_lem f l x.station i

  -- the share of a department after the step at i: one more row, where an attempt of it was begun
  abbrev share_at : Department → ℕ → Share
  share_at d i = share_of d (floor_at f l i)

  share_more : (d : Department) (i : ℕ) → begun_in d (said_at f l i) ≡ true → used_of (floor_at f l (suc i)) d ≡ used_after (used_of (floor_at f l i) d)
  share_more d i e =
      let g = floor_at f l i in
      let k = begun_some d (said_at f l i) e in
      let b = means_at f l new i (said.Begun k.0) k.1 in
      let q : department_at g b.station ≡ d = sym (next_own g (department_at g b.station) b.may.row) ∙ ap row_department (sym b.next) ∙ k.2 in
      subst (λ (x : Department). used_of (floor_at f l (suc i)) x ≡ used_after (used_of g x)) q (ap (λ (x : Share). x.used) (begun_share b))

  share_same : (d : Department) (i : ℕ) → begun_in d (said_at f l i) ≡ false → share_at d (suc i) ≡ share_at d i
  unfolding state_at step_of
  share_same d i e = elim (apply_share (floor_at f l i) (command_at l i) d) [
    | inl q ↦ q
    | inr r ↦ (
        let g = floor_at f l i in
        let b = means_at f l new i (said.Begun (row_taken g r.station)) r.outcome in
        let s : b.station ≡ r.station = cc (b.command, r.command) in
        let o : row_department (row_taken g r.station) ≡ d =
        next_own g (department_at g r.station) (subst (λ (j : ℕ). row_taken g j < 128) s b.may.row) ∙ r.of in
        clash (ap (begun_in d) r.outcome ∙ same_is d (row_department (row_taken g r.station)) (sym o)) e)
  ]

  -- as many rows of a department are in use as begins of it were accepted, up to 64
  pub used_at : (d : Department) (i : ℕ) → ((attempts_before (trace_of f l) d i ≤ 64) × (used_of (floor_at f l i) d ≡ attempts_before (trace_of f l) d i)) ⊎ ((64 < attempts_before (trace_of f l) d i) × (used_of (floor_at f l i) d ≡ 64))
  unfolding state_at count
  used_at d zero = inl (omega arith, ap (λ (x : Share). x.used) (new.shares d))
  used_at d (suc i) =
      by_cases (begun_in d (said_at f l i))
      (λ e. let u = share_more d i e in let k = ap indicator e in elim (used_at d i) [
        | inl o ↦ elim (dec_lt (used_of (floor_at f l i) d) 64) [
          | yes h ↦ inl (omega (arith, o.1), omega (arith, u, o.1, used_more (used_of (floor_at f l i) d) h))
          | no h ↦ inr (omega (arith, o.1), omega (arith, u, o.0, o.1, used_full (used_of (floor_at f l i) d) (omega arith)))
        ]
        | inr o ↦ inr (omega (arith, o.0), omega (arith, u, o.1, used_full (used_of (floor_at f l i) d) (omega (arith, o.1))))
      ])
      (λ e. let u = ap (λ (x : Share). x.used) (share_same d i e) in let k = ap indicator e in elim (used_at d i) [
        | inl o ↦ inl (omega (arith, o.0), omega (arith, u, o.1))
        | inr o ↦ inr (omega (arith, o.0), omega (arith, u, o.1))
      ])

  -- the floor keeps the highest rank begun in each department
  highest_some : (d : Department) (i : ℕ)
      → (highest_of (floor_at f l i) d ≡ 0) ⊎ ((x : Attempt (trace_of f l)) × (x.at < i) × (attempt_department (trace_of f l) x ≡ d) × (attempt_rank (trace_of f l) x ≡ highest_of (floor_at f l i) d))
  unfolding state_at step_of
  highest_some d zero = inl (ap (λ (x : Share). x.highest) (new.shares d))
  highest_some d (suc i) = elim (apply_share (floor_at f l i) (command_at l i) d) [
    | inl q ↦ (
        let e = ap (λ (x : Share). x.highest) q in
        elim (highest_some d i) [ inl z ↦ inl (e ∙ z) | inr o ↦ inr (o.0, omega (arith, o.1), o.2, o.3 ∙ sym e) ])
    | inr r ↦ (
        let g = floor_at f l i in
        let x : Attempt (trace_of f l) = record { at = i; station = r.station; round = r.round; offer = r.offer; number = row_taken g r.station; asked = r.command; begun = r.outcome } in
        let of : attempt_department (trace_of f l) x ≡ d = own_department x ∙ sym (department_at_lem f l r.station i) ∙ r.of in
        let h : highest_of (floor_at f l (suc i)) d ≡ max (highest_of g d) (attempt_rank (trace_of f l) x) =
        ap (λ (y : Share). y.highest) r.share ∙ ap (λ (e : Department). max (highest_of g e) (attempt_rank (trace_of f l) x)) r.of in
        elim (max_choice (highest_of g d) (attempt_rank (trace_of f l) x)) [
          | inl e ↦ elim (highest_some d i) [
            | inl z ↦ inl (h ∙ e ∙ z)
            | inr o ↦ inr (o.0, omega (arith, o.1), o.2, o.3 ∙ sym (h ∙ e))
          ]
          | inr e ↦ inr (x, omega arith, of, sym (h ∙ e))
        ])
  ]

  highest_up : (d : Department) (i : ℕ) → highest_of (floor_at f l i) d ≤ highest_of (floor_at f l (suc i)) d
  unfolding state_at step_of
  highest_up d i = elim (apply_share (floor_at f l i) (command_at l i) d) [
    | inl e ↦ omega (arith, ap (λ (x : Share). x.highest) e)
    | inr r ↦ omega (arith, ap (λ (x : Share). x.highest) r.share, ap (highest_of (floor_at f l i)) r.of)
  ]

  highest_each : (d : Department) (i : ℕ) (x : Attempt (trace_of f l)) → x.at < i → attempt_department (trace_of f l) x ≡ d → attempt_rank (trace_of f l) x ≤ highest_of (floor_at f l i) d
  highest_each d zero x h o = absurd (omega arith)
  highest_each d (suc i) x h o = elim (up_to h) [
    | inl q ↦ (
        let g = floor_at f l i in
        let b = means_at f l new i (said.Begun x.number) (ap (said_at f l) (sym q) ∙ x.begun) in
        let c : Begin x.station x.round x.offer ≡ Begin b.station b.round b.offer = sym x.asked ∙ ap (command_at l) q ∙ b.command in
        let s : x.station ≡ b.station = cc in
        let r : x.round ≡ b.round = cc in
        let e : department_at g b.station ≡ d = ap (department_at g) (sym s) ∙ department_at_lem f l x.station i ∙ sym (own_department x) ∙ o in
        omega (arith, ap (λ (y : Share). y.highest) (begun_share b), ap (highest_of (floor_at f l (suc i))) e))
    | inr q ↦ omega (arith, highest_each d i x q o, highest_up d i)
  ]

  pub highest_at : (d : Department) (i : ℕ) → HighestAt (trace_of f l) d (highest_of (floor_at f l i) d) i
  highest_at d i = record { each = highest_each d i; some = highest_some d i }

  -- a round left outranks the highest rank begun
  pub round_outranks : (d : Department) (s i : ℕ) (r : RoundLeft (trace_of f l) d s i) → highest_of (floor_at f l i) d < rank_of r.round s
  round_outranks d s i r = elim (highest_some d i) [
    | inl z ↦ omega (arith, r.least)
    | inr o ↦ omega (arith, r.outranks o.0 o.1 o.2, o.3)
  ]
