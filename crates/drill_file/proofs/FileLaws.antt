-- What the functions go by: the definitions of a file's header, one way through them at a time.
use Prim.Native.Nat.{ℕ, ◌-◌, ◌≤◌}
use mathlib.Core.Path.{◌≡◌, refl, sym, ◌∙◌, ap}
use mathlib.Core.Bool.{Bool, true, false}
use mathlib.Core.List.{List, []}
use native.Mathlib.Omega.{arith}
use borrow.Author.Tests.{eqb-true, eqb-false, eq-eqb, ne_eqb}
use lib.Dec.{eqb}
use lib.ListN.{length, take, drop}
use denote.Ref.{Bor}
use Rattle.std.specs.Prelude.{Result, Ok, Err}
use Rattle.std.proofs.lemmas.Bool.{cond_both}
use Rattle.base.specs.Choice.{when◌then◌else◌}
use Rattle.base.specs.Part.{IsPart}
use Rattle.base.specs.Refusals.{number, number_in}
use Rattle.base.specs.declared.Refusal.{Refusal}
use Rattle.base.proofs.Choices.{on_true, on_false, by_test}
use Rattle.base.proofs.PartLaws.{part_length}
use Rattle.base.proofs.RefusalLaws.{number_named, number_above, number_some, on_refused}
use Rattle.drill_file.specs.Claims.{Values, FileTurned, gives_1, gives_2, gives_3, gives_4, gives_22, gives_5, accepts}
use Rattle.drill_file.specs.DrillFile.{boxes_of, stations_of, label_length, label_end, departments_due, department_count, records_start, record_count, file_refusal, header_of, header_values, no_values, file_values, if_accepted, label_of, label_start, departments_of, departments_start}
use Rattle.drill_file.specs.declared.Header.{Header}
use Rattle.drill_file.proofs.TestLaws.{accepted_passed, file_turned}

-- how many department bytes a file has by its version, and that these are at most m
pub due_one : (m : ℕ) → departments_due 1 m ≡ 0
unfolding departments_due
due_one m = refl

pub due_two : (m : ℕ) → departments_due 2 m ≡ m
unfolding departments_due
due_two m = refl

pub due_most : (version m : ℕ) → departments_due version m ≤ m
unfolding departments_due
due_most version m = cond_both (eqb version 2) m 0 (λ (k : ℕ). k ≤ m) (λ _. omega arith) (λ _. omega arith)

-- header and parts by the file's refusal
module _ (s : List ℕ) where
  module _ (r : Refusal) (e : number r ≡ file_refusal s) where
    refuses : eqb (file_refusal s) 0 ≡ false
    refuses = rw (← e) (number_some r)

    pub header_refused : header_of s ≡ Err r
    unfolding header_of
    header_refused = sym (on_refused Err r _ e)

    pub values_refused : file_values s ≡ no_values
    unfolding file_values
    values_refused = sym (on_false _ refuses refl)

    pub none_accepted : (k : ℕ) → if_accepted s k ≡ 0
    none_accepted k = sym (on_false _ refuses refl)

  module _ (z : file_refusal s ≡ 0) where
    passes : eqb (file_refusal s) 0 ≡ true
    passes = eq-eqb (file_refusal s) 0 z

    pub header_accepted : header_of s ≡ Ok (record { n = boxes_of s; m = stations_of s; start = records_start s; count = record_count s })
    unfolding header_of
    header_accepted = sym (on_true _ passes refl)

    pub values_accepted : file_values s ≡ record { boxes = boxes_of s; stations = stations_of s; start = records_start s; count = record_count s }
    unfolding file_values
    values_accepted = sym (on_true _ passes refl)

    pub some_accepted : (k : ℕ) → if_accepted s k ≡ k
    some_accepted k = sym (on_true _ passes refl)

-- where the parts of an accepted file lie
pub label_within : (s : List ℕ) (e : ℕ) → e ≡ label_end s → file_refusal s ≡ 0 → (6 ≤ e) × (e ≤ length s)
label_within s e q z = let w = (accepted_passed s z).labelled.within in (omega arith, omega arith)

pub departments_within : (s : List ℕ) (a e : ℕ) → a ≡ label_end s → e ≡ records_start s → file_refusal s ≡ 0 → (a ≤ e) × (e ≤ length s)
departments_within s a e p q z = let w = (accepted_passed s z).departments.within in (omega arith, omega arith)

-- the bytes from a on of an accepted file, and none of a refused one
part_bytes : (t : Bool) (s : List ℕ) (a k : ℕ) → take (when t then k else 0) (drop (when t then a else 0) s) ≡ (when t then take k (drop a s) else [])
unfolding when◌then◌else◌
part_bytes true s a k = refl
part_bytes false s a k = refl

-- so the part that starts at a and has k bytes is that
module _ (y f : Bor (List ℕ)) (a k b j : ℕ) (q : a ≡ b) (r : k ≡ j) where
  part_lies : IsPart y f (if_accepted f.now a) (if_accepted f.now k)
      → let bytes = when eqb (file_refusal f.now) 0 then take j (drop b f.now) else [] in
      (y.now ≡ bytes) × IsPart y f (if_accepted f.now b) (length bytes)
  part_lies p =
      let same = p.bytes ∙ part_bytes (eqb (file_refusal f.now) 0) f.now a k in
      rw (← q, ← r) (same, rw (← same, part_length y f _ _ p) p)

pub label_lies : (y f : Bor (List ℕ)) (e : ℕ) → e ≡ label_end f.now → IsPart y f (if_accepted f.now 6) (if_accepted f.now (e - 6))
    → (y.now ≡ label_of f.now) × IsPart y f (label_start f.now) (length (label_of f.now))
unfolding label_of label_start
label_lies y f e q = part_lies y f 6 (e - 6) 6 (label_length f.now) refl (omega arith)

pub departments_lie : (y f : Bor (List ℕ)) (a e : ℕ) → a ≡ label_end f.now → e ≡ records_start f.now
    → IsPart y f (if_accepted f.now a) (if_accepted f.now (e - a))
    → (y.now ≡ departments_of f.now) × IsPart y f (departments_start f.now) (length (departments_of f.now))
unfolding departments_of departments_start
departments_lie y f a e p q = part_lies y f a (e - a) (label_end f.now) (department_count f.now) p (omega arith)

-- no number of a refusal of a file is above 23
turned_few : {s : List ℕ} {k : ℕ} → FileTurned s k → k ≤ 23
turned_few (gives_1 _) = omega arith
turned_few (gives_2 _ _) = omega arith
turned_few (gives_3 _ _ _) = omega arith
turned_few (gives_4 _ _ _ _) = omega arith
turned_few (gives_22 _ _ _ _ _) = omega arith
turned_few (gives_5 _ _ _ _ _ _) = omega arith
turned_few (accepts _) = omega arith

-- document 01's number of the header's answer
pub header_number : (s : List ℕ) → number_in (header_of s) ≡ file_refusal s
unfolding header_of
header_number s =
    by_test (λ (h : Result Header Refusal). number_in h ≡ file_refusal s) (eqb (file_refusal s) 0) _ _
    (λ t. sym (eqb-true (file_refusal s) 0 t))
    (λ t. let f = eqb-false (file_refusal s) 0 t in number_named (file_refusal s) (omega arith) (turned_few (file_turned s)))

-- and its values
pub header_values_lem : (s : List ℕ) → header_values (header_of s) ≡ file_values s
unfolding header_of file_values
header_values_lem s =
    by_test (λ (h : Result Header Refusal). header_values h ≡ file_values s) (eqb (file_refusal s) 0) _ _ (λ t. on_true _ t refl) (λ t. on_false _ t refl)

pub no_values_lem : (s : List ℕ) → ¬ (file_refusal s ≡ 0) → file_values s ≡ record { boxes = 0; stations = 0; start = 0; count = 0 }
unfolding file_values
no_values_lem s n = sym (on_false _ (ne_eqb (file_refusal s) 0 n) refl)

-- what a caller has in hand where the answer is a refusal, and where it is not
pub refused_number : (s : List ℕ) (r : Refusal) → header_of s ≡ Err r → (file_refusal s ≡ number r) × ¬ (number r ≡ 0)
refused_number s r e = (sym (header_number s) ∙ ap number_in e, number_above r)

pub accepted_values : (s : List ℕ) (h : Header) → header_of s ≡ Ok h → Values s h.n h.m h.start h.count
unfolding header_of
accepted_values s h =
    by_test (λ (x : Result Header Refusal). x ≡ Ok h → Values s h.n h.m h.start h.count) (eqb (file_refusal s) 0) _ _
    (λ t e. record { accepted = eqb-true (file_refusal s) 0 t; boxes = cc; stations = cc; starts = cc; counts = cc })
    (λ _ e. cc)
