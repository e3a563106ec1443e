-- A row of the host table that is found by a name is one of its rows: an intrinsic over integers at a width that it has.
use Rattle.std.proofs.Common.{◌≡◌, ℕ, Bool, true, false, ◌&&◌, cond, List, [], ◌∷◌, ◌++◌, Option, Some, None, bytes_eq, nat_eq, refl, subst, arith}
use Rattle.std.specs.Prelude.{find}
use Rattle.std.specs.Fmt.{decimal}
use Rattle.std.specs.List.{starts_with, AllByRecursion}
use Rattle.std.proofs.lemmas.Bool.{and_parts}
use Rattle.std.proofs.lemmas.Option.{same_Some}
use Rattle.run_rules.proofs.OnPlaces.Options.{none_some}
use Rattle.ir_tables.specs.declared.intrinsic.Intrinsic.{Intrinsic}
use Rattle.ir_tables.specs.Intrinsic.{intrinsics}
use Rattle.ir_tables.specs.IntrinsicName.{has_width, name_front}
use Rattle.module_arena.specs.declared.host.HostRow.{HostRow}
use Rattle.module_arena.specs.declared.host.HostRow.TheVariants.{Integer}
use Rattle.module_arena.specs.HostRows.{width_named, row_at, row_among, first_row, fixed_name, host_rows, host_row}
use Rattle.module_arena.specs.Known.{upto}
use Rattle.module_arena.specs.Module.{Bytes}
use Rattle.module_arena.proofs.IntegerNames.{found_among}
use Rattle.typed_runs.specs.States.{IsRow}

-- the name at a width
abbrev passes : Bytes → Intrinsic → ℕ → Bool
passes name which width = has_width which width && bytes_eq (name_front which ++ decimal width) name

width_is : (name : Bytes) (which : Intrinsic) (w : ℕ) → width_named name which ≡ Some w → IsRow (Integer which w)
width_is name which w e = by (starts_with nat_eq name (name_front which)) e
  where
    by : (b : Bool) → cond b (find (passes name which) (upto 1 128)) None ≡ Some w → IsRow (Integer which w)
    by true e =
        let r = found_among (passes name which) 1 128 w e in
        let k = and_parts (has_width which w) (bytes_eq (name_front which ++ decimal w) name) r.2 in
        (record { some = r.0; most = omega (arith, r.1) }, k.0)
    by false e = none_some w e

among_is : (name : Bytes) (ws : List Intrinsic) (row : HostRow) → row_among name ws ≡ Some row → IsRow row
among_is name [] row e = none_some row e
among_is name (w ∷ ws) row e = by (width_named name w) refl (among_is name ws row) e
  where
    by : (o : Option ℕ) → width_named name w ≡ o → (row_among name ws ≡ Some row → IsRow row) → row_at w o (row_among name ws) ≡ Some row → IsRow row
    by None was rest e = rest e
    by (Some n) was rest e = subst IsRow (same_Some (Integer w n) row e) (width_is name w n was)

found_all : {A : Type 0} (P : A → Type 0) (p : A → Bool) (xs : List A) (x : A) → AllByRecursion P xs → find p xs ≡ Some x → P x
found_all P p [] x all e = none_some x e
found_all P p (y ∷ xs) x all e = by (p y) (found_all P p xs x all.1) e
  where
    by : (b : Bool) → (find p xs ≡ Some x → P x) → cond b (Some y) (find p xs) ≡ Some x → P x
    by true rest e = subst P (same_Some y x e) all.0
    by false rest e = rest e

all_rows : AllByRecursion IsRow host_rows
all_rows = (tt, (tt, (tt, (tt, (tt, (tt, (tt, (tt, (tt, (tt, (tt, (tt, (tt, (tt, (tt, (tt, (tt, (tt, (tt, (tt, tt))))))))))))))))))))

pub row_is : (name : Bytes) (row : HostRow) → host_row name ≡ Some row → IsRow row
unfolding host_row
row_is name row e = by (find (λ row. bytes_eq (fixed_name row) name) host_rows) refl e
  where
    by : (o : Option HostRow) → find (λ row. bytes_eq (fixed_name row) name) host_rows ≡ o → first_row o (row_among name intrinsics) ≡ Some row → IsRow row
    by None was e = among_is name intrinsics row e
    by (Some r) was e = subst IsRow (same_Some r row e) (found_all IsRow (λ row. bytes_eq (fixed_name row) name) host_rows r all_rows was)
