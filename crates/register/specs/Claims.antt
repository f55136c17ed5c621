-- What is claimed of one ranked register. The proof is `register_claims` in proofs/Claims.
use Rattle.std.specs.Prelude.{ℕ, ◌≤◌, ◌<◌, ◌≡◌, ◌⊎◌, true, false, Some, None}
use Rattle.suits.specs.declared.Suit.{Suit}
use Rattle.register.specs.Register.{outranks, rmw_read, takes, rmw_write}
use Rattle.register.specs.declared.Register.{Register}

pub record RegisterClaims : Type 0 where
  -- "a read or write rank above r"
  pub outranks_means : (x : Register) (r : ℕ) → outranks x r ≡ true → (r < x.read) ⊎ (r < x.write)
  pub outranks_not : (x : Register) (r : ℕ) → outranks x r ≡ false → (x.read ≤ r) × (x.write ≤ r)
  pub outranks_none : (x : Register) (r : ℕ) → x.read ≤ r → x.write ≤ r → outranks x r ≡ false
  -- a read that is outranked says so and changes nothing; any other makes its rank the read rank and answers what is held
  pub read_outranked : (x : Register) (r : ℕ) → outranks x r ≡ true → rmw_read x r ≡ record { register = x; answer = None }
  pub read_answered : (x : Register) (r : ℕ) → outranks x r ≡ false
      → rmw_read x r ≡ record { register = record { read = r; write = x.write; value = x.value }; answer = Some (record { rank = x.write; value = x.value }) }
  -- no read lowers the read rank, and none changes what is held
  pub read_rises : (x : Register) (r : ℕ) → x.read ≤ (rmw_read x r).register.read
  pub read_leaves : (x : Register) (r : ℕ) → ((rmw_read x r).register.write ≡ x.write) × ((rmw_read x r).register.value ≡ x.value)
  -- "if read rank ≤ r and write rank < r"
  pub takes_means : (x : Register) (r : ℕ) → takes x r ≡ true → (x.read ≤ r) × (x.write < r)
  pub takes_both : (x : Register) (r : ℕ) → x.read ≤ r → x.write < r → takes x r ≡ true
  pub takes_not : (x : Register) (r : ℕ) → takes x r ≡ false → (r < x.read) ⊎ (r ≤ x.write)
  -- what is taken is what is then held; what is not taken changes nothing; a write never changes the read rank
  pub write_taken : (x : Register) (r : ℕ) (v : Suit) → takes x r ≡ true → rmw_write x r v ≡ record { register = record { read = x.read; write = r; value = v }; taken = true }
  pub write_refused : (x : Register) (r : ℕ) (v : Suit) → takes x r ≡ false → rmw_write x r v ≡ record { register = x; taken = false }
  pub write_answers : (x : Register) (r : ℕ) (v : Suit) → (rmw_write x r v).taken ≡ takes x r
  pub write_keeps_read : (x : Register) (r : ℕ) (v : Suit) → (rmw_write x r v).register.read ≡ x.read
