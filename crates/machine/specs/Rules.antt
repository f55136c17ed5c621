-- By which rule a station makes what it writes from what it read, and what the theory asks of such a rule.
use Rattle.std.specs.Prelude.{ℕ, ◌<◌, ◌≡◌}
use Rattle.protocol.specs.Claims.{Preorder}

-- A rule over values of the type A, by stations whose attempts have offers of the type O.
pub record Rule (A O : Type 0) : Type 1 where
  -- what a new box holds, at the start rank: ⊥ of Figure 3, or the state v0 of Figure 2
  pub start : A
  -- where its rr-read returned (w, u), an attempt with the offer o may rr-write v: the lines of Figures 1 and 2 between the two calls
  pub Makes : (o : O) (w : ℕ) (u v : A) → Type 0
  -- v may follow u: u ⊑ v of crate `protocol`
  pub Follows : (u v : A) → Type 0
  -- v is made of offers that B holds of
  pub Offered : (B : O → Type 0) (v : A) → Type 0

-- What the theory asks. Then agreement is up to `Follows`, and validity says `Offered` of the offers begun before.
pub record Fits {A O : Type 0} (R : Rule A O) : Type 1 where
  pub preorder : Preorder R.Follows
  -- what is made of some offers is made of more
  pub more : (B C : O → Type 0) → ((o : O) → B o → C o) → (v : A) → R.Offered B v → R.Offered C v
  -- what is made from a value that was written follows it
  pub follows : (o : O) (w : ℕ) (u v : A) → R.Makes o w u v → 0 < w → R.Follows u v
  -- and is made of the offers of that value and its own
  pub offered : (B : O → Type 0) (o : O) (w : ℕ) (u v : A) → R.Makes o w u v → B o → (w ≡ 0 → u ≡ R.start) → (0 < w → R.Offered B u) → R.Offered B v

-- the value v is made by the rule from the offer o
pub record Made {A O : Type 0} (R : Rule A O) (o : O) (v : A) : Type 0 where
  pub rank : ℕ
  pub value : A
  pub makes : R.Makes o rank value v

-- Consensus. Figure 1: "if (V = ⟨r0, ⊥⟩) then V.value ← inp.value", else the value stays that of the highest answer.
abbrev pub consensus : {A : Type 0} (start : A) → Rule A A
consensus start = record {
  start = start;
  Makes = λ o w u v. (w ≡ 0 → v ≡ o) × (0 < w → v ≡ u);
  Follows = ◌≡◌;
  Offered = λ B v. B v;
}
