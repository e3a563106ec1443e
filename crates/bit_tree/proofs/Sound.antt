-- The abbreviations that are in force are such as the format admits.
use Rattle.std.proofs.Common.{◌≡◌, ℕ, zero, suc, ◌-◌, Bool, true, false, List, [], ◌∷◌, ◌++◌, Option, Some, None, Ordering, Less, Equal, Greater, cond, if◌then◌else◌, refl}
use Rattle.std.specs.Prelude.{nat_lt, slice_get, unwrap_or}
use Rattle.std.specs.List.{AllByRecursion}
use Rattle.std.specs.Ordering.{nat_cmp, match_ordering}
use Rattle.std.specs.Map.{lookup, remove_entry}
use Rattle.std.specs.BTreeMap.{is_at, insert_entry}
use Rattle.bit_stream.specs.Abbreviation.{AdmittedAbbreviation}
use Rattle.bit_stream.specs.Scope.{Scope, top_level, given_to, given_here, abbreviation_of}
use Rattle.bit_stream.specs.Entry.{defined, given_for}
use Rattle.bit_tree.proofs.Values.{Sound}

abbrev pub AllSound : List AdmittedAbbreviation → Type 0
AllSound ts = AllByRecursion Sound ts

-- those in force in the block, and those that BLOCKINFO gave to others
pub record IsSound (s : Scope) : Type 0 where
  pub own : AllSound s.block.own
  pub table : AllByRecursion (λ (p : ℕ × List AdmittedAbbreviation). AllSound p.1) s.given

at_of : (ts : List AdmittedAbbreviation) (k : ℕ) (t : AdmittedAbbreviation) → AllSound ts → slice_get ts k ≡ Some t → Sound t
at_of [] k t all is = absurd (cc)
at_of (x ∷ xs) zero t all is = let x_is : x ≡ t = cc in rw x_is at all.0
at_of (x ∷ xs) (suc k) t all is = at_of xs k t all.1 is

abbrev Table : Type 0
Table = List (ℕ × List AdmittedAbbreviation)

abbrev AllIn : Table → Type 0
AllIn table = AllByRecursion (λ (p : ℕ × List AdmittedAbbreviation). AllSound p.1) table

found_in : (b : Bool) (ts : List AdmittedAbbreviation) (o : Option (List AdmittedAbbreviation)) → AllSound ts → AllSound (unwrap_or o []) → AllSound (unwrap_or (cond b (Some ts) o) [])
found_in true ts o h k = h
found_in false ts o h k = k

given_of : (table : Table) (id : ℕ) → AllIn table → AllSound (given_to table id)
given_of [] id all = tt
given_of (e ∷ es) id all = found_in (is_at (nat_cmp id) e.0) e.1 (lookup (is_at (nat_cmp id)) es) all.0 (given_of es id all.1)

kept_if : (b : Bool) (x y : Table) → AllIn x → AllIn y → AllIn (cond b x y)
kept_if true x y h k = h
kept_if false x y h k = k

removed : (test : ℕ → Bool) (table : Table) → AllIn table → AllIn (remove_entry test table)
removed test [] all = tt
removed test (e ∷ es) all = kept_if (test e.0) es (e ∷ remove_entry test es) all.1 (all.0, removed test es all.1)

by_order : (o : Ordering) (x y z : Table) → AllIn x → AllIn y → AllIn z → AllIn (match_ordering o x y z)
by_order Less x y z h k l = h
by_order Equal x y z h k l = k
by_order Greater x y z h k l = l

inserted : (table : Table) (id : ℕ) (ts : List AdmittedAbbreviation) → AllIn table → AllSound ts → AllIn (insert_entry nat_cmp table id ts)
inserted [] id ts all new = (new, tt)
inserted (e ∷ es) id ts all new = by_order (nat_cmp id e.0) ((id, ts) ∷ e ∷ es) ((e.0, ts) ∷ es) (e ∷ insert_entry nat_cmp es id ts) (new, (all.0, all.1)) (new, all.1) (all.0, inserted es id ts all.1 new)

all_with : (ts : List AdmittedAbbreviation) (t : AdmittedAbbreviation) → AllSound ts → Sound t → AllSound (ts ++ t ∷ [])
all_with [] t all new = (new, tt)
all_with (x ∷ xs) t all new = (all.0, all_with xs t all.1 new)

here_sound : (s : Scope) (o : Option ℕ) → s.block.id ≡ o → AllIn s.given → AllSound (given_here s)
here_sound s None is all = rw is tt
here_sound s (Some id) is all = rw is (given_of s.given id all)

either : (b : Bool) (x y : Option AdmittedAbbreviation) (t : AdmittedAbbreviation) → (if b then x else y) ≡ Some t → (x ≡ Some t → Sound t) → (y ≡ Some t → Sound t) → Sound t
either true x y t is h k = h is
either false x y t is h k = k is

-- the abbreviation of an id
pub abbreviation_sound : (s : Scope) (id : ℕ) (t : AdmittedAbbreviation) → IsSound s → abbreviation_of s id ≡ Some t → Sound t
abbreviation_sound s id t sound is = either (nat_lt (id - 4) s.block.given) (slice_get (given_here s) (id - 4)) (slice_get s.block.own (id - 4 - s.block.given)) t is
    (at_of (given_here s) (id - 4) t (here_sound s s.block.id refl sound.table))
    (at_of s.block.own (id - 4 - s.block.given) t sound.own)

pub defined_sound : (s : Scope) (t : AdmittedAbbreviation) → IsSound s → Sound t → IsSound (defined s t)
defined_sound s t sound new = record { own = all_with s.block.own t sound.own new; table = sound.table }

pub given_sound : (s : Scope) (id : ℕ) (t : AdmittedAbbreviation) → IsSound s → Sound t → IsSound (given_for s id t)
given_sound s id t sound new = record { own = sound.own; table = inserted _ id _ (removed (is_at (nat_cmp id)) s.given sound.table) (all_with (given_to s.given id) t (given_of s.given id sound.table) new) }

pub top_sound : IsSound top_level
top_sound = record { own = tt; table = tt }
