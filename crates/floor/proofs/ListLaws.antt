-- One list of steps behind another, and the first of a list: the laws of any steps (crate `runs`), of the floor's. Each floor of a list is sound.
use Prim.Native.Nat.{ℕ, ◌+◌, ◌≤◌, ◌<◌}
use mathlib.Core.Path.{◌≡◌}
use mathlib.Core.List.{List, [], ◌++◌}
use lib.ListN.{length, take}
use Rattle.runs.proofs.ListLaws as lists
use Rattle.floor.specs.Step.{step_of}
use Rattle.floor.specs.Soundness.{Sound}
use Rattle.floor.specs.Runs.{floor_at, said_at, floor_left}
use Rattle.floor.specs.declared.Floor.{Floor}
use Rattle.floor.proofs.Keeps.{step_keeps}

-- behind a list
pub floor_behind : (f : Floor) (l k : List (List ℕ)) (i : ℕ) → floor_at f (l ++ k) (length l + i) ≡ floor_at (floor_left f l) k i
floor_behind = lists.state_behind [] _

pub said_behind : (f : Floor) (l k : List (List ℕ)) (i : ℕ) → said_at f (l ++ k) (length l + i) ≡ said_at (floor_left f l) k i
said_behind = lists.says_behind [] _ (λ (g : Floor) (r : List ℕ). (step_of g r).outcome)

pub left_behind : (f : Floor) (l k : List (List ℕ)) → floor_left f (l ++ k) ≡ floor_left (floor_left f l) k
left_behind = lists.left_behind [] _

-- the first k of a list
pub said_taken : (f : Floor) (l : List (List ℕ)) (k i : ℕ) → i < k → said_at f (take k l) i ≡ said_at f l i
said_taken = lists.says_taken [] _ (λ (g : Floor) (r : List ℕ). (step_of g r).outcome)

pub left_taken : (f : Floor) (l : List (List ℕ)) (k : ℕ) → k ≤ length l → floor_left f (take k l) ≡ floor_at f l k
left_taken = lists.left_taken [] _

-- a sound floor stays sound
pub sound_at : (f : Floor) (l : List (List ℕ)) → Sound f → (i : ℕ) → Sound (floor_at f l i)
sound_at = lists.state_keeps [] _ Sound step_keeps
