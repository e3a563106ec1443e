-- The elements of appended arrays, one array behind the other.
use Rattle.std.proofs.Common.{◌≡◌, ℕ, ◌+◌, ◌<◌, List, [], ◌∷◌, ◌++◌, map, length, flat_map, filter, take, Option, Some, None, All, slice_get, refl, sym, ap, ◌∙◌, subst, append-nil, arith}
use Rattle.std.specs.Option.{option_map, option_map_or}
use Rattle.std.specs.Prelude.{option_to_list}
use Rattle.std.proofs.lemmas.List.{map-append}
use Rattle.std.proofs.lemmas.List.Concat.{flat_map-append}
use Rattle.std.proofs.lemmas.List.Elements.{All-append, All-head, All-nil, All-weaker, filter-append}
use Rattle.type_table.specs.Tree.{Tree}
use Rattle.type_table.specs.Types.{trees}
use Rattle.module_arena.specs.Changes.{constant_in}
use Rattle.module_arena.specs.Known.{HasGlobal, IsGood, KnowsConst, KnowsVariable, counts}
use Rattle.module_arena.specs.Lists.{Lists}
use Rattle.module_arena.specs.Module.{Constant, Module, Aggregate, Square, more_constants}
use Rattle.module_arena.specs.View.{constant_at, constants_at, constants_of}
use Rattle.module_arena.specs.declared.constant.Brackets as the_brackets
use Rattle.module_arena.specs.declared.constant.Brackets.TheVariants as brackets
use Rattle.module_arena.specs.declared.constant.Const as the_const
use Rattle.module_arena.specs.declared.constant.Const.TheVariants as const
use Rattle.module_arena.specs.declared.constant.TypedConst.{TypedConst}
use Rattle.module_arena.specs.declared.entry.Variable as the_variable
use Rattle.module_arena.specs.Constants.{constants_listed}
use Rattle.module_arena.proofs.ConstantsTold.{const_known, constant_here}
use Rattle.linkage_rules.specs.declared.entry.EntryId.{EntryId}
use Rattle.linkage_rules.specs.declared.symbol.SymbolKind.TheVariants as kind
use Rattle.linkage_rules.specs.Entries.{Entry}
use Rattle.linkage_rules.specs.Ids.{modules, seen}
use Rattle.linkage_rules.specs.Winner.{is_definition}
use Rattle.linkage_rules.proofs.Seen.{variable_seen}
use Rattle.linkage_rules.proofs.Steps.{all_get, take_more}
use Rattle.linkage_rules.specs.Contents.Contents.{ContentPiece, elements_in, elements_of, pieces_of_constants}
use Rattle.link_rules.specs.Linked.{linked_constant, linked_pieces}
use Rattle.link_rules.specs.Structs.{linked_type}
use Rattle.item_build.specs.Types.Stands.{AreTyped, IsConstant, IsKnownTyped, typed_at}
use Rattle.item_build.proofs.OnTypes.Made.{constants_at-listed}
use Rattle.entry_copy.specs.Moved.{moved_typed}
use Rattle.entry_copy.specs.Tables.{Tables}
use Rattle.module_linker.specs.Stages.Copied.{AreCopied}
use Rattle.module_linker.specs.Stages.NewIds.{AllHaveNewIds}
use Rattle.module_linker.specs.Stages.Definitions.{entries_defined}
use Rattle.module_linker.specs.Filling.Elements.{elements_of_all, elements_told, pieces_linked}
use Rattle.module_linker.proofs.OnFilling.Copied.{elements_copied}

-- ---- constants with their types, one list behind the other

pub typed_join : (b : Lists) (xs ys : List TypedConst) (cs ds : List (Tree × Constant)) → AreTyped b xs cs → AreTyped b ys ds → AreTyped b (xs ++ ys) (cs ++ ds)
typed_join b xs ys cs ds first more = record {
  known = All-append (IsKnownTyped b) xs ys first.known more.known;
  constants = map-append (typed_at b) xs ys ∙ ap (λ l. l ++ map (typed_at b) ys) first.constants ∙ ap (λ l. cs ++ l) more.constants;
}

pub typed_none : (b : Lists) (xs : List TypedConst) (cs : List (Tree × Constant)) → AreTyped b xs cs → AreTyped b xs (cs ++ [])
typed_none b xs cs h = subst (AreTyped b xs) (sym (append-nil cs)) h

module _ (parts : List Module) where
  -- as the constants of one list
  listed : (ps : List ContentPiece) → constants_listed (pieces_linked parts ps) ≡ linked_pieces parts ps
  listed [] = refl
  listed (p ∷ ps) = ap (λ cs. more_constants (linked_type parts p.part p.ty) (linked_constant parts p.part p.value) cs) (listed ps)

  -- the elements of some entries and of more
  elements_behind : (es fs : List Entry) → elements_of_all parts (es ++ fs) ≡ elements_of_all parts es ++ elements_of_all parts fs
  elements_behind es fs =
      ap (pieces_linked parts) (flat_map-append elements_in es fs)
      ∙ map-append {B = Tree × Constant} (λ (p : ContentPiece). (linked_type parts p.part p.ty, linked_constant parts p.part p.value)) (flat_map elements_in es) (flat_map elements_in fs)

-- a constant that is no list has no elements
pub told_none : (k : the_const.Const) → ((round : the_brackets.Brackets) (elements : List TypedConst) → k ≡ const.Aggregate round elements → ⊥) → [] ≡ elements_told k
told_none (const.Aggregate round elements) other = absurd (other round elements refl)
told_none (const.Integer number) other = refl
told_none (const.Truth truth) other = refl
told_none const.Null other = refl
told_none const.Undef other = refl
told_none const.Poison other = refl
told_none const.ZeroInitializer other = refl
told_none (const.Address g) other = refl
told_none (const.ByteString bytes) other = refl
told_none (const.ElementAddress flags address) other = refl
told_none (const.Cast opcode operand to) other = refl
told_none (const.Binary opcode flags pair) other = refl

-- ---- the definitions among some entries

module _ (parts : List Lists) where
  -- one entry more
  pub elements_more : (ids : List EntryId) (k : ℕ) (id : EntryId) → slice_get ids k ≡ Some id
      → elements_of_all (modules parts) (entries_defined parts (take (k + 1) ids)) ≡ elements_of_all (modules parts) (entries_defined parts (take k ids)) ++ elements_of_all (modules parts) (entries_defined parts (id ∷ []))
  elements_more ids k id at =
      let before = map (seen (modules parts)) (take k ids) in
      ap (λ l. elements_of_all (modules parts) (entries_defined parts l)) (take_more ids k id at)
      ∙ ap (λ l. elements_of_all (modules parts) (filter is_definition l)) (map-append (seen (modules parts)) (take k ids) (id ∷ []))
      ∙ ap (elements_of_all (modules parts)) (filter-append is_definition before (seen (modules parts) id ∷ []))
      ∙ elements_behind (modules parts) (filter is_definition before) (filter is_definition (seen (modules parts) id ∷ []))

-- ---- the elements of one variable

module _ (parts : List Lists) (id : EntryId) (a : Lists) (there : slice_get parts id.part ≡ Some a) (is : id.kind ≡ kind.Variable) (v : the_variable.Variable) (at : slice_get a.variables id.number ≡ Some v) where
  -- they are those of its initialiser
  elements_are : (o : Option ℕ) → v.initialiser ≡ o → elements_of_all (modules parts) (seen (modules parts) id ∷ [])
      ≡ pieces_linked (modules parts) (option_map_or (λ c. elements_of id.part (constant_at (constants_of a) c)) o [])
  elements_are o e =
      ap (λ es. pieces_linked (modules parts) es) (append-nil (elements_in (seen (modules parts) id)))
      ∙ ap (λ (x : Entry). pieces_linked (modules parts) (elements_in x)) (variable_seen parts id a there v is at)
      ∙ ap (λ o. pieces_linked (modules parts) (option_map_or (elements_of id.part) (option_map (constant_at (constants_of a)) o) [])) e
      ∙ ap (pieces_linked (modules parts)) (by o)
    where
      by : (o : Option ℕ) → option_map_or (elements_of id.part) (option_map (constant_at (constants_of a)) o) [] ≡ option_map_or (λ c. elements_of id.part (constant_at (constants_of a) c)) o []
      by None = refl
      by (Some c) = refl

  pub no_initialiser_adds : (b : Lists) (xs : List TypedConst) (before : List (Tree × Constant)) → v.initialiser ≡ None → AreTyped b xs before → AreTyped b xs (before ++ elements_of_all (modules parts) (seen (modules parts) id ∷ []))
  no_initialiser_adds b xs before e h = subst (λ l. AreTyped b xs (before ++ l)) (sym (elements_are None e)) (typed_none b xs before h)

  module _ (good : IsGood a) (k : ℕ) (given : v.initialiser ≡ Some k) where
    pub initialiser_there : k < length a.constants
    initialiser_there =
        let known = all_get (KnowsVariable (length a.table.types) (length a.constants)) a.variables id.number v good.variables at in
        All-head (λ c. c < length a.constants) k [] (subst (λ o. All (λ c. c < length a.constants) (option_to_list o)) given known.initialiser_known)

    module _ (c : the_const.Const) (found : slice_get a.constants k ≡ Some c) where
      told_known : All (IsKnownTyped a) (elements_told c)
      told_known = by c (const_known a good k c found)
        where
          by : (d : the_const.Const) → KnowsConst (length a.table.types) (counts a) k d → All (IsKnownTyped a) (elements_told d)
          by (const.Aggregate round elements) h =
              All-weaker (λ (x : TypedConst). (x.ty < length a.table.types) × (x.value < k)) (IsKnownTyped a) (λ x y. (y.0, let less = y.1 in let lt = initialiser_there in omega (arith, less, lt))) elements h.typed_known
          by (const.Integer number) h = All-nil (IsKnownTyped a)
          by (const.Truth truth) h = All-nil (IsKnownTyped a)
          by const.Null h = All-nil (IsKnownTyped a)
          by const.Undef h = All-nil (IsKnownTyped a)
          by const.Poison h = All-nil (IsKnownTyped a)
          by const.ZeroInitializer h = All-nil (IsKnownTyped a)
          by (const.Address g) h = All-nil (IsKnownTyped a)
          by (const.ByteString bytes) h = All-nil (IsKnownTyped a)
          by (const.ElementAddress flags address) h = All-nil (IsKnownTyped a)
          by (const.Cast opcode operand to) h = All-nil (IsKnownTyped a)
          by (const.Binary opcode flags pair) h = All-nil (IsKnownTyped a)

      told_are : elements_of id.part (constant_at (constants_of a) k) ≡ pieces_of_constants id.part (constants_at (trees a.table) (constants_of a) (elements_told c))
      told_are = ap (elements_of id.part) (constant_here a good k c found) ∙ by c
        where
          by : (d : the_const.Const) → elements_of id.part (constant_in a d) ≡ pieces_of_constants id.part (constants_at (trees a.table) (constants_of a) (elements_told d))
          by (const.Aggregate round elements) = refl
          by (const.Integer number) = refl
          by (const.Truth truth) = refl
          by const.Null = refl
          by const.Undef = refl
          by const.Poison = refl
          by const.ZeroInitializer = refl
          by (const.Address g) = refl
          by (const.ByteString bytes) = refl
          by (const.ElementAddress flags address) = refl
          by (const.Cast opcode operand to) = refl
          by (const.Binary opcode flags pair) = refl

      pub elements_added : (b : Lists) (tables : List Tables) (t : Tables) → AreCopied parts b tables → AllHaveNewIds parts b tables → slice_get tables id.part ≡ Some t
          → (xs : List TypedConst) (before : List (Tree × Constant)) → AreTyped b xs before
          → AreTyped b (xs ++ map (moved_typed t) (elements_told c)) (before ++ elements_of_all (modules parts) (seen (modules parts) id ∷ []))
      elements_added b tables t copied ids by xs before h =
          typed_join b xs (map (moved_typed t) (elements_told c)) before _ h
          (subst (AreTyped b (map (moved_typed t) (elements_told c))) (sym (elements_are (Some k) given ∙ ap (pieces_linked (modules parts)) told_are))
          (elements_copied parts b tables copied ids id.part a t there by (elements_told c) told_known))

-- ---- the list of them

pub list_known : (b : Lists) (elements : List TypedConst) → All (IsKnownTyped b) elements → KnowsConst (length b.table.types) (counts b) (length b.constants) (const.Aggregate brackets.Square elements)
list_known b elements known = record {
  types_known = All-nil (λ ty. ty < length b.table.types);
  typed_known = known;
  globals_known = All-nil (HasGlobal (counts b));
}

pub list_is : (parts : List Module) (b c : Lists) (id : ℕ) (elements : List TypedConst) (ps : List ContentPiece) → AreTyped b elements (pieces_linked parts ps) → IsConstant c id (constant_in b (const.Aggregate brackets.Square elements))
    → IsConstant c id (Aggregate Square (linked_pieces parts ps))
list_is parts b c id elements ps are h =
    subst (λ cs. IsConstant c id (Aggregate Square cs)) (constants_at-listed b elements ∙ ap constants_listed are.constants ∙ listed parts ps) h
