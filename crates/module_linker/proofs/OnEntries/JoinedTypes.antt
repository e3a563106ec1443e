-- The type and the alignment of a variable that is defined: of an appended one, of a common one, and of any other.
use Rattle.std.proofs.Common.{◌≡◌, ℕ, ◌<◌, ◌≤◌, ◌^◌, true, false, List, length, Option, refl, sym, subst, ap, ◌∙◌, arith}
use Rattle.std.specs.Prelude.{nat_le, ◌&&◌, if◌then◌else◌}
use Rattle.std.proofs.Math.Nat.{min-eq_left}
use Rattle.std.proofs.lemmas.Bool.{and_parts, cond-true, cond-false}
use Rattle.ir_tables.specs.declared.linkage.Linkage.{Linkage}
use Rattle.ir_tables.specs.declared.linkage.Linkage.TheVariants.{External, Private, Internal, Common, Appending, ExternWeak, AvailableExternally, Linkonce, LinkonceOdr, Weak, WeakOdr}
use Rattle.type_table.specs.declared.ir_type.IrType.TheVariants.{Array}
use Rattle.type_table.specs.Limits.{IsWithinLimits}
use Rattle.type_table.specs.Shape.{shape}
use Rattle.type_table.specs.Tree.{Tree, Structs, array}
use Rattle.type_table.specs.Types.{names, trees, structs, tree_of, IsKnown}
use Rattle.module_arena.specs.Lists.{Lists}
use Rattle.module_arena.specs.Module.{Module}
use Rattle.module_arena.specs.View.{type_at}
use Rattle.module_arena.specs.WellFormed.{is_good_type, is_within_limits}
use Rattle.module_arena.proofs.WithinLimits.{within_limits_decides}
use Rattle.linkage_rules.specs.declared.entry.EntryId.{EntryId}
use Rattle.linkage_rules.specs.Entries.{Entry}
use Rattle.linkage_rules.specs.Globals.{linkage_of, type_of, stated, element_of}
use Rattle.linkage_rules.specs.Ids.{IsEntryId, modules, seen}
use Rattle.linkage_rules.specs.Linkages.{is_appending, is_common}
use Rattle.linkage_rules.specs.Addresses.{joined_length, greatest_stated, greatest_common, commons}
use Rattle.linkage_rules.proofs.Seen.{seen_part}
use Rattle.linkage_rules.specs.Resolving.Places.{clamped}
use Rattle.link_rules.specs.Linked.{joined_alignment}
use Rattle.link_rules.specs.Structs.{linked_type}
use Rattle.item_build.specs.Types.Stands.{IsType}
use Rattle.item_build.proofs.OnTypes.Leaves.{array_is_short}
use Rattle.entry_copy.specs.Tables.{Tables, new_type}
use Rattle.module_linker.specs.Stages.Ground.{HasTypes}
use Rattle.module_linker.specs.Entries.Definitions.{entries_defined, joined_of}
use Rattle.module_linker.proofs.OnEntries.Written.{type_there}

-- ---- linkages

pub never_appending : (l : Linkage) → (l ≡ Appending → ⊥) → is_appending l ≡ false
never_appending Appending other = absurd (other refl)
never_appending External other = refl
never_appending Private other = refl
never_appending Internal other = refl
never_appending Common other = refl
never_appending ExternWeak other = refl
never_appending AvailableExternally other = refl
never_appending Linkonce other = refl
never_appending LinkonceOdr other = refl
never_appending Weak other = refl
never_appending WeakOdr other = refl

pub never_common : (l : Linkage) → (l ≡ Common → ⊥) → is_common l ≡ false
never_common Common other = absurd (other refl)
never_common Appending other = refl
never_common External other = refl
never_common Private other = refl
never_common Internal other = refl
never_common ExternWeak other = refl
never_common AvailableExternally other = refl
never_common Linkonce other = refl
never_common LinkonceOdr other = refl
never_common Weak other = refl
never_common WeakOdr other = refl

-- ---- alignments

module _ (ms : List Module) (e : Entry) (es : List Entry) where
  pub appended_aligned : linkage_of e.global ≡ Appending → greatest_stated es ≡ joined_alignment ms e es
  appended_aligned h = sym (cond-true (is_appending (linkage_of e.global)) _ _ (ap is_appending h))

  by_commons : linkage_of e.global ≡ Common → joined_alignment ms e es ≡ (if nat_le 2 (length (commons es)) then greatest_common ms es else stated e.global)
  by_commons h = ap (λ l. if is_appending l then greatest_stated es else (if is_common l && nat_le 2 (length (commons es)) then greatest_common ms es else stated e.global)) h

  pub common_aligned : (own : Option ℕ) → own ≡ stated e.global → linkage_of e.global ≡ Common → (if nat_le 2 (length (commons es)) then greatest_common ms es else own) ≡ joined_alignment ms e es
  common_aligned own is h = ap (λ o. if nat_le 2 (length (commons es)) then greatest_common ms es else o) is ∙ sym (by_commons h)

  pub own_aligned : (linkage_of e.global ≡ Appending → ⊥) → (linkage_of e.global ≡ Common → ⊥) → stated e.global ≡ joined_alignment ms e es
  own_aligned one other =
      sym
      (cond-false (is_appending (linkage_of e.global)) _ _ (never_appending (linkage_of e.global) one)
      ∙ ap (λ b. if b && nat_le 2 (length (commons es)) then greatest_common ms es else stated e.global) (never_common (linkage_of e.global) other))

-- ---- arrays within the limits

array_within : (ss : Structs) (n : ℕ) (t : Tree) → is_good_type ss (array n t) ≡ true → IsWithinLimits (shape ss (array n t))
array_within ss n t good = (within_limits_decides (shape ss (array n t))).0 (and_parts (is_good_type ss t) (is_within_limits (shape ss (array n t))) good).1

exact : (n : ℕ) → n ≤ 2 ^ 40 → clamped n ≡ n
exact n le = min-eq_left (omega (arith, le))

-- ---- types

module _ (parts : List Lists) (home : EntryId) (ids : List EntryId) (a b : Lists) (t : Tables) (known : IsEntryId parts home) (h : HasTypes (modules parts) home.part a b t) where
  -- of any variable that is not appended
  pub own_type : (ty : ℕ) → ty < length a.table.types → type_of (seen (modules parts) home).global ≡ type_at (trees a.table) ty → (linkage_of (seen (modules parts) home).global ≡ Appending → ⊥) → IsType b (new_type t ty) (joined_of parts home ids)
  own_type ty lt is other = subst (IsType b (new_type t ty)) (sym same) (type_there parts home.part a b t h ty lt)
    where
      same : joined_of parts home ids ≡ linked_type (modules parts) home.part (type_at (trees a.table) ty)
      same =
          cond-false (is_appending (linkage_of (seen (modules parts) home).global)) _ _ (never_appending (linkage_of (seen (modules parts) home).global) other)
          ∙ (λ i. linked_type (modules parts) (seen_part parts home known i) (is i))

  -- of an appended one
  module _ (element n : ℕ) (lt : element < length a.table.types) (is : type_at (trees a.table) element ≡ element_of (type_of (seen (modules parts) home).global)) (appends : linkage_of (seen (modules parts) home).global ≡ Appending)
      (long : n ≡ clamped (joined_length (entries_defined parts ids))) (good : is_good_type (structs b.table) (joined_of parts home ids) ≡ true) where
    abbrev whole : ℕ
    whole = joined_length (entries_defined parts ids)

    abbrev inner : Tree
    inner = linked_type (modules parts) home.part (type_at (trees a.table) element)

    there : IsType b (new_type t element) inner
    there = type_there parts home.part a b t h element lt

    array_is : joined_of parts home ids ≡ array whole inner
    array_is =
        cond-true (is_appending (linkage_of (seen (modules parts) home).global)) _ _ (ap is_appending appends)
        ∙ (λ i. array whole (linked_type (modules parts) (seen_part parts home known i) (sym is i)))

    within : IsWithinLimits (shape (structs b.table) (array whole inner))
    within = array_within (structs b.table) whole inner (subst (λ x. is_good_type (structs b.table) x ≡ true) array_is good)

    same_length : n ≡ whole
    same_length = long ∙ exact whole (array_is_short (structs b.table) whole inner within)

    pub appended_known : IsKnown b.table (Array n (new_type t element))
    appended_known = there.known

    pub appended_is : tree_of (names b.table) (trees b.table) (Array n (new_type t element)) ≡ joined_of parts home ids
    appended_is =
        let tree = there.tree in
        (λ i. array (same_length i) (tree i)) ∙ sym array_is

    pub appended_fits : IsWithinLimits (shape (structs b.table) (tree_of (names b.table) (trees b.table) (Array n (new_type t element))))
    appended_fits = subst (λ x. IsWithinLimits (shape (structs b.table) x)) (sym (appended_is ∙ array_is)) within
