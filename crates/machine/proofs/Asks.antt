-- What crate `requests` does to the requests of a phase, as the machine has it.
use Prim.Native.Nat.{ℕ, zero, suc, ◌<◌}
use native.Mathlib.Decide.{ℕ_discrete}
use native.Mathlib.Omega.{arith}
use mathlib.Core.Path.{◌≡◌, refl, sym, ap, ◌∙◌}
use mathlib.Core.Logic.{inl, inr}
use mathlib.Core.Bool.{Bool, true, false}
use mathlib.Core.List.{List}
use lib.ListN.{length, get_or, set}
use lib.Seq.{get_or-set_same, get_or-set_other}
use Rattle.base.proofs.Stores.{set_all, get_d_same}
use Rattle.base.proofs.MaskLaws.{bit_zero, bit_other}
use Rattle.requests.specs.Requests.{slot0, slot_at, slot_waiting, waiting_below, none_issued, issued_to, served_at, received_from, at_quorum, all_yes}
use Rattle.requests.specs.declared.Slot.{Slot}
use Rattle.requests.specs.declared.Stage.TheVariants.{Answered}
use Rattle.requests.specs.declared.Requests.{Requests}
use Rattle.requests.proofs.RequestLaws.{quorum_majority, yes_means, yes_not}
use Rattle.protocol.specs.Trace.{Edit, there, other}
use Rattle.machine.specs.Machine.{Served, Heard, Unasked, Fresh, Agreed, Denied}
use Rattle.machine.specs.Asks.{asks}

module _ {A : Type 0} (d : A) where
  -- a store to a list is an edit of one place
  pub edit_set : (l : List A) (b : ℕ) (x : A) → b < length l → (j : ℕ) → Edit (λ k. get_or l k d) (λ k. get_or (set l b x) k d) b (λ y. x) j
  edit_set l b x h j = elim (ℕ_discrete j b) [
    | yes e ↦ there e (rw e (get_or-set_same l b x d h))
    | no e ↦ other e (get_or-set_other l b j x d e)
  ]

-- seen through a function
pub edit_map : {T U : Type 0} {x y : ℕ → T} {b : ℕ} {c : T} (g : T → U) → ((j : ℕ) → Edit x y b (λ _. c) j) → (j : ℕ) → Edit (λ k. g (x k)) (λ k. g (y k)) b (λ _. g c) j
edit_map g e j = elim (e j) [ there p q ↦ there p (ap g q) | other p q ↦ other p (ap g q) ]

pub served_asks : (q : Requests) (b : ℕ) (ok : Bool) → b < length q.slots → Served b ok (asks q) (asks (served_at q b ok))
served_asks q b ok h = record { slot = edit_set slot0 q.slots b (record { stage = Answered; ok = ok }) h; heard = λ j. refl }

pub heard_asks : (q : Requests) (b : ℕ) → Heard b (asks q) (asks (received_from q b))
heard_asks q b = record { slot = λ j. refl; heard = λ j h. elim (ℕ_discrete j b) [ yes e ↦ inl e | no e ↦ inr (sym (bit_other q.heard b j e) ∙ h) ] }

not_answered : (k j : ℕ) → ¬ ((slot_at (issued_to k) j).stage ≡ Answered)
unfolding waiting_below
not_answered zero j e = let n : ◌≡◌ {A = ℕ} 0 1 = cc (e, ap (λ (x : Slot). x.stage) (get_d_same 9 j slot0)) in omega arith
not_answered (suc k) j e =
    set_all slot0 (λ (i : ℕ) (x : Slot). ¬ (x.stage ≡ Answered)) (waiting_below k) k slot_waiting (not_answered k) (λ q. let n : ◌≡◌ {A = ℕ} 0 1 = cc in omega arith) j e

pub fresh_asks : (n : ℕ) → Fresh (asks (issued_to n))
fresh_asks n = record { slot = not_answered n; heard = bit_zero }

pub none_asks : Unasked (asks none_issued)
none_asks = record { slot = λ j. ap (λ (x : Slot). x.stage) (get_d_same 9 j slot0); heard = bit_zero }

pub agreed_asks : (q : Requests) (n : ℕ) → at_quorum q n ≡ true → all_yes q n ≡ true → Agreed n (asks q)
agreed_asks q n h t = record { majority = quorum_majority q n h (λ b p o. (p, o)); yes = yes_means q n t }

pub denied_asks : (q : Requests) (n : ℕ) → all_yes q n ≡ false → Denied n (asks q)
denied_asks q n t = let m = yes_not q n t in record { box = m.0; below = m.1; heard = m.2; no = m.3 }
