-- What callers of the register go by, so that they need not open its definitions.
use Prim.Native.Nat.{ℕ, ◌<◌, ◌≤◌}
use mathlib.Core.Path.{◌≡◌, refl, sym, ap, ◌∙◌}
use mathlib.Core.Logic.{◌⊎◌, inl, inr}
use mathlib.Core.Bool.{Bool, true, false}
use native.Mathlib.Nat.{le_refl, le-max_left, max-eq_right}
use lib.Dec.{leb, ltb}
use Rattle.std.proofs.Common.{Some, None}
use borrow.Author.Tests.{leb-true, leb-false, ltb-true, ltb-false, le-leb, le-ltb, lt-ltb}
use Rattle.base.proofs.Cases.{clash, by_cases}
use Rattle.base.proofs.Choices.{on_true, on_false, by_test, both_true, both_false}
use Rattle.suits.specs.declared.Suit.{Suit}
use Rattle.register.specs.Register.{outranks, is_held, rmw_read, takes, rmw_write}
use Rattle.register.specs.declared.Register.{Register}
use Rattle.register.specs.declared.ReadDone.{ReadDone}
use Rattle.register.specs.declared.WriteDone.{WriteDone}

module _ (x : Register) (r : ℕ) where
  -- what it means that a read is outranked, and that it is not
  pub outranks_means : outranks x r ≡ true → (r < x.read) ⊎ (r < x.write)
  unfolding outranks
  outranks_means =
      by_test (λ (t : Bool). t ≡ true → (r < x.read) ⊎ (r < x.write)) (ltb r x.read) true (ltb r x.write)
      (λ p _. inl (ltb-true _ _ p)) (λ _ q. inr (ltb-true _ _ q))

  pub outranks_not : outranks x r ≡ false → (x.read ≤ r) × (x.write ≤ r)
  unfolding outranks
  outranks_not e = let p = both_false _ _ e in (ltb-false _ _ p.0, ltb-false _ _ p.1)

  pub outranks_none : x.read ≤ r → x.write ≤ r → outranks x r ≡ false
  unfolding outranks
  outranks_none p q = sym (on_false _ (le-ltb _ _ p) (sym (le-ltb _ _ q)))

  -- a read that is outranked says so and changes nothing
  pub read_outranked : outranks x r ≡ true → rmw_read x r ≡ record { register = x; answer = None }
  unfolding rmw_read
  read_outranked e = sym (on_true _ e refl)

  -- any other makes its rank the read rank and answers what is held
  pub read_answered : outranks x r ≡ false
      → rmw_read x r ≡ record { register = record { read = r; write = x.write; value = x.value }; answer = Some (record { rank = x.write; value = x.value }) }
  unfolding rmw_read
  read_answered e =
      sym (on_false _ e refl)
      ∙ ap (λ (k : ℕ). record { register = record { read = k; write = x.write; value = x.value }; answer = Some (record { rank = x.write; value = x.value }) })
      (max-eq_right (outranks_not e).0)

  -- no read lowers the read rank, and none changes what is held
  pub read_rises : x.read ≤ (rmw_read x r).register.read
  unfolding rmw_read
  read_rises = by_test (λ (d : ReadDone). x.read ≤ d.register.read) (outranks x r) _ _ (λ _. le_refl x.read) (λ _. le-max_left x.read r)

  pub read_leaves : ((rmw_read x r).register.write ≡ x.write) × ((rmw_read x r).register.value ≡ x.value)
  unfolding rmw_read
  read_leaves =
      by_test (λ (d : ReadDone). (d.register.write ≡ x.write) × (d.register.value ≡ x.value)) (outranks x r) _ _
      (λ _. (refl, refl)) (λ _. (refl, refl))

  -- what it means that a write is taken, and that it is not
  pub takes_means : takes x r ≡ true → (x.read ≤ r) × (x.write < r)
  unfolding takes
  takes_means e = let p = both_true _ _ e in (leb-true _ _ p.0, ltb-true _ _ p.1)

  pub takes_both : x.read ≤ r → x.write < r → takes x r ≡ true
  unfolding takes
  takes_both p q = sym (on_true _ (le-leb _ _ p) (sym (lt-ltb _ _ q)))

  pub takes_not : takes x r ≡ false → (r < x.read) ⊎ (r ≤ x.write)
  unfolding takes
  takes_not =
      by_test (λ (t : Bool). t ≡ false → (r < x.read) ⊎ (r ≤ x.write)) (leb x.read r) (ltb x.write r) false
      (λ _ q. inr (ltb-false _ _ q)) (λ p _. inl (leb-false _ _ p))

  module _ (v : Suit) where
    -- a write that is taken: what is taken is what is then held
    pub write_taken : takes x r ≡ true → rmw_write x r v ≡ record { register = record { read = x.read; write = r; value = v }; taken = true }
    unfolding rmw_write
    write_taken e = sym (on_true _ e refl)

    -- a write that is not taken changes nothing
    pub write_refused : takes x r ≡ false → rmw_write x r v ≡ record { register = x; taken = false }
    unfolding rmw_write
    write_refused e = sym (on_false _ e refl)

    -- the answer of a write
    pub write_answers : (rmw_write x r v).taken ≡ takes x r
    unfolding rmw_write
    write_answers = by_test (λ (w : WriteDone). w.taken ≡ takes x r) (takes x r) _ _ sym sym

    -- a write never changes the read rank
    pub write_keeps_read : (rmw_write x r v).register.read ≡ x.read
    unfolding rmw_write
    write_keeps_read = by_test (λ (w : WriteDone). w.register.read ≡ x.read) (takes x r) _ _ (λ _. refl) (λ _. refl)

-- a read by its two cases
pub data ReadCase (x : Register) (r : ℕ) : ReadDone → Type 0 where
  outranked : (r < x.read) ⊎ (r < x.write) → ReadCase x r (record { register = x; answer = None })
  answered : x.read ≤ r → x.write ≤ r
      → ReadCase x r (record { register = record { read = r; write = x.write; value = x.value }; answer = Some (record { rank = x.write; value = x.value }) })

pub read_case : (x : Register) (r : ℕ) → ReadCase x r (rmw_read x r)
read_case x r =
    by_cases (outranks x r)
    (λ e. rw (read_outranked x r e) (outranked (outranks_means x r e)))
    (λ e. let p = outranks_not x r e in rw (read_answered x r e) (answered p.0 p.1))

-- a read whose answer is not what is held left the register as it was
kept_by : {x : Register} {r : ℕ} {d : ReadDone} → ReadCase x r d → is_held d.answer ≡ false → d.register ≡ x
kept_by (outranked h) e = refl
kept_by (answered h k) e = clash refl e

pub outranked_kept : (x : Register) (r : ℕ) → is_held (rmw_read x r).answer ≡ false → (rmw_read x r).register ≡ x
outranked_kept x r = kept_by (read_case x r)

pub ruleset reads = (read_outranked, read_answered)
