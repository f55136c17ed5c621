-- The rule of Figure 1 fits the theory, over any values.
use native.Mathlib.Nat.{eq-zero-or-pos}
use mathlib.Core.Path.{sym}
use mathlib.Core.Logic.{inl, inr}
use Rattle.protocol.proofs.Instances.{equality}
use Rattle.machine.specs.Rules.{Fits, consensus}

pub consensus_fits : {A : Type 0} (start : A) → Fits (consensus start)
consensus_fits start = record {
  preorder = equality;
  more = λ B C h v b. h v b;
  follows = λ o w u v k h. sym (k.1 h);
  offered = λ B o w u v k b s q. elim (eq-zero-or-pos w) [ inl e ↦ rw (k.0 e) b | inr h ↦ rw (k.1 h) (q h) ];
}
