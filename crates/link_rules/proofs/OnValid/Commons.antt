-- The greatest alignment of commons is an alignment.
use Rattle.std.proofs.Common.{◌≡◌, ℕ, ◌≤◌, Bool, true, false, ◌⊎◌, inl, inr, List, [], ◌∷◌, map, max, Option, Some, None, refl, ap, ◌∙◌, nat_le, unwrap_or, arith, leb-true, leb-false}
use Rattle.std.specs.Prelude.{if◌then◌else◌}
use Rattle.std.specs.Option.{option_map_or}
use Rattle.std.specs.List.{AllByRecursion}
use Rattle.std.proofs.lemmas.Bool.{cases_Bool}
use Rattle.type_table.specs.Shape.{Shape, int_leaf, ptr_leaf, void_leaf, opaque_leaf, array_of, struct_of, Shapes, no_shapes, more_shapes}
use Rattle.type_table.specs.Layout.{int_align, align, greatest_align}
use Rattle.module_arena.specs.Module.{Module}
use Rattle.module_arena.specs.EntryRules.{is_alignment, alignment_suits}
use Rattle.linkage_rules.specs.Globals.{Global, OfVariable, OfFunction, OfAlias, linkage_of, stated, type_of}
use Rattle.linkage_rules.specs.Linkages.{is_common}
use Rattle.linkage_rules.specs.Lists.{greatest, greatest_from}
use Rattle.linkage_rules.specs.Entries.{entries, part_at, same_symbol, symbol_of, entries_of}
use Rattle.linkage_rules.specs.Winner.{is_definition, definitions, shape_in}
use Rattle.linkage_rules.specs.Addresses.{align_in, alignment_in, commons}
use Rattle.linkage_rules.proofs.Entries.{all_follow}
use Rattle.linkage_rules.proofs.Gathered.{all_mapped}
use Rattle.link_rules.proofs.Symbols.{all_filter}
use Rattle.link_rules.proofs.OnValid.PartEntries.{EntryHolds}
use Rattle.link_rules.specs.Valid.Laws.{AreLinkable}
use Rattle.link_rules.proofs.OnValid.Renaming.{entries_hold}
use Rattle.link_rules.proofs.OnValid.LinkedRows.{CommonsAligned}

max_is : (a b : ℕ) → (max a b ≡ a) ⊎ (max a b ≡ b)
max_is a b = go (cases_Bool (nat_le a b))
  where
    go : (nat_le a b ≡ true) ⊎ (nat_le a b ≡ false) → (max a b ≡ a) ⊎ (max a b ≡ b)
    go (inl t) = let h : a ≤ b = leb-true a b t in inr (omega arith)
    go (inr f) = let h = leb-false a b f in inl (omega arith)

max_aligned : (a b : ℕ) → is_alignment a ≡ true → is_alignment b ≡ true → is_alignment (max a b) ≡ true
max_aligned a b h k = go (max_is a b)
  where
    go : (max a b ≡ a) ⊎ (max a b ≡ b) → is_alignment (max a b) ≡ true
    go (inl e) = ap is_alignment e ∙ h
    go (inr e) = ap is_alignment e ∙ k

choice : (b : Bool) (m n : ℕ) → is_alignment m ≡ true → is_alignment n ≡ true → is_alignment (if b then m else n) ≡ true
choice true m n h k = h
choice false m n h k = k

int_aligned : (w : ℕ) → is_alignment (int_align w) ≡ true
int_aligned w =
    choice (nat_le w 8) 1 _ refl (choice (nat_le w 16) 2 _ refl (choice (nat_le w 32) 4 _ refl (choice (nat_le w 64) 8 16 refl refl)))

mutual
  pub shape_aligned : (s : Shape) → is_alignment (align s) ≡ true
  shape_aligned (int_leaf w) = int_aligned w
  shape_aligned ptr_leaf = refl
  shape_aligned void_leaf = refl
  shape_aligned (opaque_leaf label) = refl
  shape_aligned (array_of n s) = shape_aligned s
  shape_aligned (struct_of label packed ss) = choice packed 1 (greatest_align ss) refl (shapes_aligned ss)

  shapes_aligned : (ss : Shapes) → is_alignment (greatest_align ss) ≡ true
  shapes_aligned no_shapes = refl
  shapes_aligned (more_shapes s ss) = max_aligned (align s) (greatest_align ss) (shape_aligned s) (shapes_aligned ss)

abbrev IsAligned : ℕ → Type 0
IsAligned n = is_alignment n ≡ true

greatest_from_aligned : (n : ℕ) (ns : List ℕ) → IsAligned n → AllByRecursion IsAligned ns → IsAligned (greatest_from n ns)
greatest_from_aligned n [] h a = h
greatest_from_aligned n (m ∷ ms) h a = max_aligned m (greatest_from n ms) a.0 (greatest_from_aligned n ms h a.1)

pub greatest_aligned : (ns : List ℕ) → AllByRecursion IsAligned ns → alignment_suits (greatest ns) ≡ true
greatest_aligned [] a = refl
greatest_aligned (n ∷ ns) a = greatest_from_aligned n ns a.0 a.1

module _ (parts : List Module) (fine : AreLinkable parts) where
  stated_aligned : (m : Module) (g : Global) → EntryHolds m g → alignment_suits (stated g) ≡ true
  stated_aligned m (OfVariable v) h = h.1.1.1.1.1.0
  stated_aligned m (OfFunction f) h = refl
  stated_aligned m (OfAlias a) h = refl

  shape_in_aligned : (o : Option Shape) → IsAligned (option_map_or align o 1)
  shape_in_aligned None = refl
  shape_in_aligned (Some s) = shape_aligned s

  or_type : (o : Option ℕ) (n : ℕ) → alignment_suits o ≡ true → IsAligned n → IsAligned (unwrap_or o n)
  or_type None n h k = k
  or_type (Some m) n h k = h

  -- the alignment of each entry is one
  entries_aligned : AllByRecursion (λ e. IsAligned (alignment_in parts e)) (entries parts)
  entries_aligned = all_follow _ _ (entries parts) (λ e h. or_type (stated e.global) (align_in parts e.part (type_of e.global)) (stated_aligned (part_at parts e.part) e.global h) (shape_in_aligned (shape_in parts e.part (type_of e.global)))) (entries_hold parts fine)

  pub commons_aligned : CommonsAligned parts
  commons_aligned s =
      greatest_aligned (map (alignment_in parts) (commons (definitions parts s)))
      (all_mapped IsAligned (alignment_in parts) (commons (definitions parts s))
      (all_filter _ (λ e. is_common (linkage_of e.global)) (definitions parts s) (all_filter _ is_definition (entries_of parts s) (all_filter _ (λ e. same_symbol s (symbol_of e)) (entries parts) entries_aligned))))
