-- What every step keeps: a refused one the floor itself; each one the sizes and soundness.
use Prim.Native.Nat.{ℕ, ◌<◌, ◌≤◌}
use native.Mathlib.Decide.{ℕ_discrete}
use mathlib.Core.Path.{◌≡◌, refl, sym, ap, subst, ◌∙◌}
use mathlib.Core.Logic.{inl, inr}
use mathlib.Core.Bool.{true}
use mathlib.Core.List.{List}
use lib.ListN.{get_or, set}
use lib.Seq.{get_or-set_other}
use Rattle.suits.specs.declared.Suit.{Suit}
use Rattle.register.specs.declared.Department.{Department}
use Rattle.register.proofs.DepartmentLaws.{same_or_not}
use Rattle.attempts.specs.Rows.{row0, new_row}
use Rattle.floor.specs.Floors.{row_at, department_at, share_of, used_of}
use Rattle.floor.specs.Soundness.{Sound, SameSizes}
use Rattle.attempts.specs.Rows as rows
use Rattle.commands.specs.Commands.{command_of}
use Rattle.commands.specs.Outcomes.{is_refused}
use Rattle.floor.specs.Step.{apply_of, step_of}
use Rattle.attempts.specs.declared.Row.{Row}
use Rattle.floor.specs.declared.Floor.{Floor}
use Rattle.floor.specs.declared.Stepped.{Stepped}
use Rattle.commands.specs.declared.Command.{Command}
use Rattle.base.proofs.Stores.{set_all, set_at}
use Rattle.floor.specs.Effects.{row_taken, share_after, after_begin}
use Rattle.attempts.proofs.UsedLaws.{used_most}
use Rattle.floor.specs.declared.Share.{Share}
use Rattle.floor.proofs.UseLaws.{share_own, share_other}
use Rattle.floor.proofs.StepCases.{StepCase, turned, began, served, heard, issued, decided, aborted, stopped, left, returned, apply_case, apply_refusal}
use Rattle.floor.proofs.BegunUse.{begun_use}

-- "Floor, record and reply stay unchanged": a refused step hands back the very floor
pub refused_same : (f : Floor) (c : Command) → is_refused (apply_of f c).outcome ≡ true → (apply_of f c).floor ≡ f
refused_same f c e = ap (λ (s : Stepped). s.floor) (apply_refusal f c e).is

pub step_refused_same : (f : Floor) (r : List ℕ) → is_refused (step_of f r).outcome ≡ true → (step_of f r).floor ≡ f
unfolding step_of
step_refused_same f r = refused_same f (command_of r)

-- the numbers of boxes and stations never change
sizes : {f : Floor} {c : Command} {s : Stepped} → StepCase f c s → SameSizes f s.floor
sizes (turned k t) = record { boxes = refl; stations = refl }
sizes (began z d) = record { boxes = refl; stations = refl }
sizes (served z d) = record { boxes = refl; stations = refl }
sizes (heard z d q) = record { boxes = refl; stations = refl }
sizes (issued z d r q t) = record { boxes = refl; stations = refl }
sizes (decided z d r q t) = record { boxes = refl; stations = refl }
sizes (aborted z d r q t) = record { boxes = refl; stations = refl }
sizes (stopped z d) = record { boxes = refl; stations = refl }
sizes (left z d) = record { boxes = refl; stations = refl }
sizes (returned z d) = record { boxes = refl; stations = refl }

pub apply_sizes : (f : Floor) (c : Command) → SameSizes f (apply_of f c).floor
apply_sizes f c = sizes (apply_case f c)

pub step_sizes : (f : Floor) (r : List ℕ) → SameSizes f (step_of f r).floor
unfolding step_of
step_sizes f r = apply_sizes f (command_of r)

-- a floor whose rows in use are those of a sound one, or belong to the same stations
sound_on : (f g : Floor) → g.n ≡ f.n → g.m ≡ f.m → g.shares ≡ f.shares → ((a : ℕ) → (row_at g a).station ≡ (row_at f a).station) → Sound f → Sound g
sound_on f g n m u r z = record {
  box_least = rw n z.box_least;
  box_most = rw n z.box_most;
  station_least = rw m z.station_least;
  station_most = rw m z.station_most;
  rows_most = λ d. rw u (z.rows_most d);
  stations = λ a h. rw (r a, m) (z.stations a (rw u at h));
}

-- a row stored in place of one of the same station
pub owner_kept : (l : List Row) (a : ℕ) (w : Row) → w.station ≡ (get_or l a row0).station → (j : ℕ) → (get_or (set l a w) j row0).station ≡ (get_or l j row0).station
owner_kept l a w e = set_all row0 (λ (j : ℕ) (x : Row). x.station ≡ (get_or l j row0).station) l a w (λ j. refl) e

begun_sound : (f : Floor) (s round : ℕ) (v : Suit) → s < f.m → Sound f → Sound (after_begin f s round v)
unfolding new_row
begun_sound f s round v hs z = record {
  box_least = z.box_least;
  box_most = z.box_most;
  station_least = z.station_least;
  station_most = z.station_most;
  rows_most = λ e. elim (same_or_not e (department_at f s)) [
    | inl q ↦
        subst (λ (x : Share). x.used ≤ 64) (sym (ap (λ (d : Department). share_of d (after_begin f s round v)) q ∙ share_own (department_at f s) f (share_after f s round)))
        (used_most (used_of f (department_at f s)) (z.rows_most (department_at f s)))
    | inr n ↦ subst (λ (x : Share). x.used ≤ 64) (sym (share_other (department_at f s) e f (share_after f s round) n)) (z.rows_most e)
  ];
  stations = λ j h. elim (ℕ_discrete j (row_taken f s)) [
    | yes e ↦ subst (λ (i : ℕ). (row_at (after_begin f s round v) i).station < f.m) (sym e)
        (set_at row0 (λ (w : Row). w.station < f.m) f.rows (row_taken f s) (new_row f.n s round v) hs z.station_least)
    | no e ↦ rw (get_or-set_other f.rows (row_taken f s) j (new_row f.n s round v) row0 e) (z.stations j (begun_use f s round v j h e))
  ];
}

keeps : {f : Floor} {c : Command} {s : Stepped} → StepCase f c s → Sound f → Sound s.floor
unfolding rows.issued
keeps (turned k t) y = y
keeps {f} (began {s = s} {round = r} {v = v} z d) y = begun_sound f s r v d.station y
keeps {f} (served {a = a} z d) y = sound_on f _ refl refl refl (owner_kept f.rows a _ refl) y
keeps {f} (heard {a = a} z d q) y = sound_on f _ refl refl refl (owner_kept f.rows a _ refl) y
keeps {f} (issued {a = a} z d r q t) y = sound_on f _ refl refl refl (owner_kept f.rows a _ refl) y
keeps {f} (decided {a = a} z d r q t) y = sound_on f _ refl refl refl (owner_kept f.rows a _ refl) y
keeps {f} (aborted {a = a} z d r q t) y = sound_on f _ refl refl refl (owner_kept f.rows a _ refl) y
keeps {f} (stopped z d) y = sound_on f _ refl refl refl (λ a. refl) y
keeps {f} (left z d) y = sound_on f _ refl refl refl (λ a. refl) y
keeps {f} (returned z d) y = sound_on f _ refl refl refl (λ a. refl) y

-- a step keeps a sound floor sound, accepted or refused
pub apply_keeps : (f : Floor) (c : Command) → Sound f → Sound (apply_of f c).floor
apply_keeps f c = keeps (apply_case f c)

pub step_keeps : (f : Floor) (r : List ℕ) → Sound f → Sound (step_of f r).floor
unfolding step_of
step_keeps f r = apply_keeps f (command_of r)
