-- The steps of a list, "each step given the floor that the last one left", whatever the floor is: F is what is stepped, M what a list is made
-- of, O what a step says.
use Rattle.std.specs.Prelude.{ℕ, zero, suc, ◌+◌, ◌%◌, List, [], ◌∷◌, Bool, true, eqb, length, get_or}
use Rattle.base.specs.Choice.{when◌then◌else◌}
use Rattle.runs.specs.declared.Until.{Until}
use Rattle.runs.specs.declared.Until.TheVariants.{Refusal, End}

-- The list by positions, from 0; behind its end stands `none`.
module _ {F M : Type 0} (none : M) (next : F → M → F) where
  -- "Each step is given the floor that the one before handed back, after a refused one too": the floor before the step at i
  unfoldable pub state_at : (f : F) (l : List M) (i : ℕ) → F
  state_at f l zero = f
  state_at f l (suc i) = next (state_at f l i) (get_or l i none)

  -- the floor that the list left
  abbrev pub state_left : (f : F) (l : List M) → F
  state_left f l = state_at f l (length l)

  -- what the step at i said
  abbrev pub says_at : {O : Type 0} (says : F → M → O) (f : F) (l : List M) (i : ℕ) → O
  says_at says f l i = says (state_at f l i) (get_or l i none)

-- A run ends behind a step that was refused, or also behind one that ended an attempt.
unfoldable pub stops_by : (until : Until) (refused ends : Bool) → Bool
stops_by Refusal refused ends = refused
stops_by End refused ends = when refused then true else ends

-- Over any step that says whether it was refused, and whether it ended an attempt: C is what is stepped by, which `read` gets from a record,
-- and `made` is what a run hands back, of the floor left, how many steps were accepted and what the last said.
module _ {F M C O R : Type 0} (refuses ends : O → Bool) (read : M → C) (next : F → C → F) (says : F → C → O) (made : F → ℕ → O → R) where
  -- the step of c after k accepted ones
  abbrev pub ran_by : (k : ℕ) (f : F) (c : C) → R
  ran_by k f c = made (next f c) (when refuses (says f c) then k else k + 1) (says f c)

  -- the step of c and then the records rs, after k accepted steps
  unfoldable pub ran_from : (until : Until) (k : ℕ) (f : F) (c : C) (rs : List M) → R
  ran_from until k f c [] = ran_by k f c
  ran_from until k f c (r ∷ rs) =
      when stops_by until (refuses (says f c)) (ends (says f c)) then ran_by k f c
      else ran_from until (k + 1) (next f c) (read r) rs

-- Records handed in as a list of bytes. What turns it back before its first step: 6, "A handed-in floor has ..", and then 5, "not whole
-- records"; 0 where neither applies.
unfoldable pub refusal_by : (sound : Bool) (size : ℕ) → ℕ
refusal_by sound size =
    when sound then (when eqb (size % 8) 0 then 0 else 5)
    else 6
