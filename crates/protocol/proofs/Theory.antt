-- The claims, proved.
use Prim.Native.Nat.{ℕ}
use Rattle.protocol.specs.Claims.{Preorder, Invariance, Theory}
use Rattle.protocol.proofs.Invariance.{start_inv, transition_inv, chosen_kept, settled, agreement, returns_issued, returns_see, issue_offered}
use Rattle.protocol.proofs.TraceLaws.{step_transition, run_inv, run_known, issued_now, refused_outranked, outranked, told_outranked, nack_outranked}

pub invariance : {A : Type 0} (n : ℕ) (⊑ : A → A → Type 0) → Preorder ⊑ → Invariance n ⊑
invariance n ⊑ o = record {
  start = λ σ. start_inv n ⊑;
  step = λ σ τ. transition_inv n ⊑ o.transitive;
  chosen = λ σ τ r v. chosen_kept n ⊑;
  settled = λ σ i. settled n ⊑ i;
  agreement = λ σ i. agreement n ⊑ i o.reflexive;
}

pub theory : Theory
theory A N n ⊑ Offered o more x l k = let i = run_inv n ⊑ Offered o.transitive more k in record {
  invariant = i;
  transition = λ y e s. step_transition n ⊑ Offered s more;
  answer_issued = i.source;
  answer_sees = λ r b w v m s t h. i.sees r b w v m s h t;
  outranked = outranked n ⊑ Offered k;
  outranked_before = λ y r b. refused_outranked n ⊑ Offered (run_known n ⊑ Offered k);
  nack_outranked = nack_outranked n ⊑ Offered k;
  nack_before = λ y r b. told_outranked n ⊑ Offered (run_known n ⊑ Offered k);
  returned_issued = λ r w v. returns_issued n ⊑ i;
  returned_sees = λ r w v q s u. returns_see n ⊑ i q;
  settled = settled n ⊑ i;
  agreement = agreement n ⊑ i o.reflexive;
  validity = i.sound.offered;
  offered_before = λ y r v s. issue_offered n ⊑ i (issued_now n ⊑ Offered s).0;
}
