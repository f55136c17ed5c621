-- What a run says of its list: which records were accepted, what they left, and which was refused.
use Prim.Native.Nat.{ℕ, zero, suc, ◌+◌, ◌<◌}
use native.Mathlib.Omega.{arith}
use mathlib.Core.Path.{◌≡◌, refl, sym, ap, ◌∙◌}
use mathlib.Core.Bool.{Bool, true, false}
use mathlib.Core.List.{List, [], ◌∷◌}
use lib.ListN.{length}
use Rattle.base.proofs.Cases.{clash, by_cases}
use Rattle.base.proofs.Choices.{on_true, on_false, by_test}
use Rattle.runs.specs.Runs.{state_at, says_at, stops_by, ran_by, ran_from}
use Rattle.runs.specs.RanOver.{RanOver}
use Rattle.runs.specs.declared.Until.{Until}
use Rattle.runs.proofs.ListLaws.{state_shift, says_shift}
use Rattle.runs.proofs.RunLaws.{refused_stops, goes_accepted}

module _ {F M C O R : Type 0} (refuses ends : O → Bool) (none : M) (read : M → C) (next : F → C → F) (says : F → C → O) (made : F → ℕ → O → R)
    -- a refused step leaves the floor as it was
    (same : (f : F) (c : C) → refuses (says f c) ≡ true → next f c ≡ f) where
  -- the step of a record
  abbrev stepped : F → M → F
  stepped f r = next f (read r)

  abbrev answers : F → M → O
  answers f r = says f (read r)

  abbrev said : F → List M → ℕ → O
  said f l i = says_at none stepped answers f l i

  abbrev stops : Until → O → Bool
  stops until o = stops_by until (refuses o) (ends o)

  -- x is made of a floor, a count and what was said; k steps were accepted before
  pub record Since (until : Until) (k : ℕ) (f : F) (l : List M) (x : R) : Type 0 where
    pub floor : F
    pub n : ℕ
    pub outcome : O
    pub made_of : x ≡ made floor (k + n) outcome
    pub over : RanOver refuses ends none stepped answers until f l n floor outcome

  module _ (until : Until) (k : ℕ) (f : F) (r : M) (rs : List M) where
    abbrev One : Type 0
    One = Since until k f (r ∷ rs) (ran_by refuses ends read next says made k f (read r))

    -- the step of r was the last, refused or accepted
    turned : refuses (answers f r) ≡ true → One
    unfolding state_at
    turned t = record {
      floor = stepped f r;
      n = 0;
      outcome = answers f r;
      made_of = ap (λ (n : ℕ). made (stepped f r) n (answers f r)) (sym (on_true _ t refl) ∙ omega arith);
      over = record {
        within = omega arith;
        left = same f (read r) t;
        each = λ i h. absurd (omega arith);
        goes_on = λ i h. absurd (omega arith);
        some = λ e. clash t e;
        last = λ e. clash t e;
        turned = λ _. (omega arith, refl);
        whole = λ e. clash (refused_stops until _ _ t) e;
      };
    }

    ended : refuses (answers f r) ≡ false → (stops until (answers f r) ≡ false → 1 ≡ length (r ∷ rs)) → One
    unfolding state_at
    ended t w = record {
      floor = stepped f r;
      n = 1;
      outcome = answers f r;
      made_of = ap (λ (n : ℕ). made (stepped f r) n (answers f r)) (sym (on_false _ t refl));
      over = record {
        within = omega arith;
        left = refl;
        each = first;
        goes_on = λ i h. absurd (omega arith);
        some = λ _. omega arith;
        last = λ _. only;
        turned = λ e. clash e t;
        whole = w;
      };
    }
      where
        first : (i : ℕ) → i < 1 → refuses (said f (r ∷ rs) i) ≡ false
        first zero h = t
        first (suc i) h = absurd (omega arith)

        only : (i : ℕ) → suc i ≡ 1 → said f (r ∷ rs) i ≡ answers f r
        only zero e = refl
        only (suc i) e = absurd (omega arith)

    -- the run goes on with the other records
    more : stops until (answers f r) ≡ false → (x : R) → Since until (k + 1) (stepped f r) rs x → Since until k f (r ∷ rs) x
    unfolding state_at
    more t x z =
        let v = z.over in
        record {
          floor = z.floor;
          n = suc z.n;
          outcome = z.outcome;
          made_of = z.made_of ∙ ap (λ (n : ℕ). made z.floor n z.outcome) (omega arith);
          over = record {
            within = omega (arith, v.within);
            left = v.left ∙ sym (state_shift none stepped f r rs z.n);
            each = each;
            goes_on = goes;
            some = λ e. omega arith;
            last = last;
            turned = λ e. let q = v.turned e in (omega (arith, q.0), says_shift none stepped answers f r rs z.n ∙ q.1);
            whole = λ e. omega (arith, v.whole e);
          };
        }
      where
        each : (i : ℕ) → i < suc z.n → refuses (said f (r ∷ rs) i) ≡ false
        each zero h = goes_accepted until _ _ t
        each (suc i) h = ap refuses (says_shift none stepped answers f r rs i) ∙ z.over.each i (omega arith)

        goes : (i : ℕ) → suc i < suc z.n → stops until (said f (r ∷ rs) i) ≡ false
        goes zero h = t
        goes (suc i) h = ap (stops until) (says_shift none stepped answers f r rs i) ∙ z.over.goes_on i (omega arith)

        last : refuses z.outcome ≡ false → (i : ℕ) → suc i ≡ suc z.n → said f (r ∷ rs) i ≡ z.outcome
        last e zero q = absurd (omega (arith, z.over.some e))
        last e (suc i) q = says_shift none stepped answers f r rs i ∙ z.over.last e i (omega arith)

    one_step : (stops until (answers f r) ≡ false → 1 ≡ length (r ∷ rs)) → One
    one_step w = by_cases (refuses (answers f r)) turned (λ t. ended t w)

  -- the run of a record and those behind it
  pub since : (until : Until) (k : ℕ) (f : F) (r : M) (rs : List M) → Since until k f (r ∷ rs) (ran_from refuses ends read next says made until k f (read r) rs)
  unfolding ran_from
  since until k f r [] = one_step until k f r [] (λ _. refl)
  since until k f r (r' ∷ rs) =
      by_test (Since until k f (r ∷ r' ∷ rs)) (stops until (answers f r)) _ _ (λ t. one_step until k f r (r' ∷ rs) (λ e. clash t e))
      (λ t. more until k f r (r' ∷ rs) t _ (since until (k + 1) (stepped f r) r' rs))
