-- A choice by a test. A chain of choices reads like document 01's "Turned back, in checking order": the first test that holds decides.
use Rattle.std.specs.Prelude.{Bool, true, false}

infixr 10 when◌then◌else◌
unfoldable pub when◌then◌else◌ : {A : Type 0} → Bool → A → A → A
when true then x else y = x
when false then x else y = y
