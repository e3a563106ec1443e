-- Declarations made of a module's entries are what declarations are asked for.
use Rattle.std.proofs.Common.{◌≡◌, ℕ, Bool, true, false, not, ◌&&◌, ◌||◌, List, [], ◌∷◌, ◌++◌, map, Option, Some, None, refl, sym, ap, ◌∙◌, subst, option_and_then, is_some, is_none}
use Rattle.std.specs.Prelude.{slice_get}
use Rattle.std.specs.Option.{option_map_or}
use Rattle.std.specs.Bool.{beq}
use Rattle.std.specs.List.{list_any, list_all, AllByRecursion}
use Rattle.std.proofs.lemmas.Bool.{and_from, and_parts, or_left, or_right, not_from_false, both_ways, cond-false}
use Rattle.std.proofs.lemmas.List.Folds.{list_all-map}
use Rattle.ir_tables.specs.declared.linkage.Linkage.{Linkage}
use Rattle.ir_tables.specs.declared.linkage.Linkage.TheVariants.{External, Private, Internal, Common, Appending, ExternWeak, AvailableExternally, Linkonce, LinkonceOdr, Weak, WeakOdr}
use Rattle.type_table.specs.Tree.{Tree, int, ptr, void, array, struct, named, Trees, no_trees, more_trees, Structs}
use Rattle.type_table.specs.Shape.{Shape, array_of, struct_of, Shapes, expanded, all_expanded, shape}
use Rattle.type_table.specs.Layout.{has_layout, have_layouts, layout}
use Rattle.type_table.proofs.Rooms.{unmapped, unjoined}
use Rattle.module_arena.specs.Module.{Bytes, Signature, Block, Parameter, Variable, Function, Module}
use Rattle.module_arena.specs.Renamed.{renamed_tree, renamed_signature}
use Rattle.module_arena.specs.Same.{same_type}
use Rattle.module_arena.specs.TypeTests.{is_free_of_void, are_free_of_void, is_free_of_names, lies_in_memory, is_passable}
use Rattle.module_arena.specs.declared.host.HostRow.{HostRow}
use Rattle.module_arena.specs.declared.host.HostRow.TheVariants.{Putchar, Puts, Getchar, Exit, Abort, Malloc, Free, Memcpy, Memmove, Memset, Strlen, MemcpyI64, MemmoveI64, MemsetI64, MemcpyI32, MemmoveI32, MemsetI32, LifetimeStart, LifetimeEnd, Printf, Integer}
use Rattle.ir_tables.specs.declared.intrinsic.Intrinsic.{Intrinsic}
use Rattle.module_arena.specs.HostRows.{host_types, host_row, same_type_list, same_signature, signature_of, is_declared_as, fixed, integer_returns, integer_parameters}
use Rattle.module_arena.specs.Functions.{body}
use Rattle.module_arena.specs.EntryRules.{linkage_suits, is_common, is_appending, is_llvm_name, function_name_suits, variable_type_suits, return_suits, function_types_suit}
use Rattle.module_arena.specs.Valid.{AllHold, variable_demands, function_demands, entry_demands, blocks_demands}
use Rattle.module_arena.specs.WellFormed.{IsWellFormed}
use Rattle.module_arena.proofs.SameValues.{type_is}
use Rattle.link_rules.proofs.OnValid.Types.{KnownTree, void_free_same, nameless_same}
use Rattle.link_rules.proofs.OnValid.Instructions.{return_suits_same, all_passable_same}
use Rattle.link_rules.proofs.OnValid.Known.{function_known}
use Rattle.link_rules.proofs.OnValid.Good.{Renames}
use Rattle.link_rules.proofs.OnValid.Entries.{other_name}
use Rattle.ir_tables.specs.declared.intrinsic.Intrinsic.TheVariants as integer

-- WHAT LIES IN MEMORY HAS NO VOID

module _ (look : Bytes → Option Shape) where
  mutual
    laid_free : (t : Tree) (s : Shape) → expanded look t ≡ Some s → has_layout s ≡ true → is_free_of_void t ≡ true
    laid_free (int w) s e h = refl
    laid_free ptr s e h = refl
    laid_free void s e h = subst (λ (o : Option Shape). option_map_or has_layout o true ≡ true) (sym e) h
    laid_free (array n t) s e h =
        let inside = unmapped (array_of n) (expanded look t) s e in
        laid_free t inside.0 inside.1 (ap has_layout inside.2 ∙ h)
    laid_free (struct packed ts) s e h =
        let inside = unmapped (struct_of None packed) (all_expanded look ts) s e in
        all_laid_free ts inside.0 inside.1 (ap has_layout inside.2 ∙ h)
    laid_free (named name) s e h = refl

    all_laid_free : (ts : Trees) (ss : Shapes) → all_expanded look ts ≡ Some ss → have_layouts ss ≡ true → are_free_of_void ts ≡ true
    all_laid_free no_trees ss e h = refl
    all_laid_free (more_trees t ts) ss e h =
        let halves = unjoined (expanded look t) (all_expanded look ts) ss e in
        let both = and_parts (has_layout halves.0) (have_layouts halves.1) (ap have_layouts halves.4 ∙ h) in
        and_from _ _ (laid_free t halves.0 halves.2 both.0) (all_laid_free ts halves.1 halves.3 both.1)

laid_out : (o : Option Shape) → is_some (option_and_then layout o) ≡ true → (s : Shape) × (o ≡ Some s) × (has_layout s ≡ true)
laid_out None h = cc
laid_out (Some s) h = (s, refl, go (has_layout s) refl)
  where
    go : (b : Bool) → has_layout s ≡ b → has_layout s ≡ true
    go true e = e
    go false e = absurd (both_ways _ (ap is_some (cond-false (has_layout s) _ None e)) h)

pub memory_free : (structs : Structs) (t : Tree) → lies_in_memory structs t ≡ true → is_free_of_void t ≡ true
memory_free structs t h = let l = laid_out (shape structs t) h in laid_free _ t l.0 l.1 l.2

-- LINKAGES OF DECLARATIONS

pub declared_common : (l : Linkage) → linkage_suits false l ≡ true → is_common l ≡ false
declared_common External h = refl
declared_common ExternWeak h = refl
declared_common Common h = cc
declared_common Private h = refl
declared_common Internal h = refl
declared_common Appending h = refl
declared_common AvailableExternally h = refl
declared_common Linkonce h = refl
declared_common LinkonceOdr h = refl
declared_common Weak h = refl
declared_common WeakOdr h = refl

pub declared_appending : (l : Linkage) → linkage_suits false l ≡ true → is_appending l ≡ false
declared_appending External h = refl
declared_appending ExternWeak h = refl
declared_appending Appending h = cc
declared_appending Common h = refl
declared_appending Private h = refl
declared_appending Internal h = refl
declared_appending AvailableExternally h = refl
declared_appending Linkonce h = refl
declared_appending LinkonceOdr h = refl
declared_appending Weak h = refl
declared_appending WeakOdr h = refl

-- TYPES OF HOST FUNCTIONS NAME NO STRUCTS

abbrev is_nameless : Signature → Bool
is_nameless s = is_free_of_names s.returns && list_all is_free_of_names s.parameters

-- so it is with the intrinsics over integers, each by itself
integer_nameless : (which : Intrinsic) (width : ℕ) → list_all is_nameless (fixed (integer_returns which width) (integer_parameters which width) ∷ []) ≡ true
integer_nameless integer.Ctpop width = refl
integer_nameless _ width = refl

host_nameless : (row : HostRow) → list_all is_nameless (host_types row) ≡ true
host_nameless Putchar = refl
host_nameless Puts = refl
host_nameless Getchar = refl
host_nameless Exit = refl
host_nameless Abort = refl
host_nameless Malloc = refl
host_nameless Free = refl
host_nameless Memcpy = refl
host_nameless Memmove = refl
host_nameless Memset = refl
host_nameless Strlen = refl
host_nameless MemcpyI64 = refl
host_nameless MemmoveI64 = refl
host_nameless MemsetI64 = refl
host_nameless MemcpyI32 = refl
host_nameless MemmoveI32 = refl
host_nameless MemsetI32 = refl
host_nameless LifetimeStart = refl
host_nameless LifetimeEnd = refl
host_nameless Printf = refl
host_nameless (Integer which width) = integer_nameless which width

module _ (names : Bytes → Bytes) where
  same_nameless : (a b : Tree) → is_free_of_names b ≡ true → same_type a b ≡ true → same_type (renamed_tree names a) b ≡ true
  same_nameless a b free h =
      let is = type_is a b h in
      subst (λ (t : Tree). same_type t b ≡ true) (sym (ap (renamed_tree names) is ∙ nameless_same names b free ∙ sym is)) h

  same_nameless_list : (as_ bs : List Tree) → list_all is_free_of_names bs ≡ true → same_type_list as_ bs ≡ true → same_type_list (map (renamed_tree names) as_) bs ≡ true
  same_nameless_list [] [] free h = refl
  same_nameless_list (a ∷ as_) (b ∷ bs) free h =
      let one = and_parts (is_free_of_names b) _ free in
      let two = and_parts (same_type a b) _ h in
      and_from _ _ (same_nameless a b one.0 two.0) (same_nameless_list as_ bs one.1 two.1)
  same_nameless_list [] (b ∷ bs) free h = cc
  same_nameless_list (a ∷ as_) [] free h = cc

  signature_kept : (s t : Signature) → is_nameless t ≡ true → same_signature s t ≡ true → same_signature (renamed_signature names s) t ≡ true
  signature_kept s t free h =
      let one = and_parts (is_free_of_names t.returns) _ free in
      let two = and_parts (same_type s.returns t.returns) _ h in
      let three = and_parts (same_type_list s.parameters t.parameters) (beq s.variadic t.variadic) two.1 in
      and_from _ _ (same_nameless s.returns t.returns one.0 two.0) (and_from _ _ (same_nameless_list s.parameters t.parameters one.1 three.0) three.1)

  any_signature_kept : (s : Signature) (ts : List Signature) → list_all is_nameless ts ≡ true → list_any (same_signature s) ts ≡ true → list_any (same_signature (renamed_signature names s)) ts ≡ true
  any_signature_kept s [] free h = cc
  any_signature_kept s (t ∷ ts) free h =
      let both = and_parts (is_nameless t) _ free in
      go (same_signature s t) refl (signature_kept s t both.0) (any_signature_kept s ts both.1) h
    where
      go : (b : Bool) → same_signature s t ≡ b → (same_signature s t ≡ true → same_signature (renamed_signature names s) t ≡ true) → (list_any (same_signature s) ts ≡ true → list_any (same_signature (renamed_signature names s)) ts ≡ true) → (b || list_any (same_signature s) ts) ≡ true → list_any (same_signature (renamed_signature names s)) (t ∷ ts) ≡ true
      go true e here more h = or_left (same_signature (renamed_signature names s) t) _ (here e)
      go false e here more h = or_right (same_signature (renamed_signature names s) t) _ (more h)

-- a declaration of a function, with its types under new names
pub record IsDeclarationOf (names : Bytes → Bytes) (f g : Function) : Type 0 where
  pub name : g.name ≡ f.name
  pub types : signature_of g ≡ renamed_signature names (signature_of f)
  pub body : g.body ≡ None

module _ (m n : Module) (names globals : Bytes → Bytes) (renames : Renames m n names globals) (good : IsWellFormed m) where
  -- a declaration made of a variable that is not appending
  pub variable_declared : (k : ℕ) (v : Variable) → slice_get m.variables k ≡ Some v → (linkage : Linkage) → linkage_suits false linkage ≡ true → is_appending v.linkage ≡ false → is_llvm_name v.name ≡ false → AllHold (variable_demands m v) → AllHold (variable_demands n (record { name = v.name; linkage = linkage; constant = v.constant; ty = renamed_tree names v.ty; alignment = v.alignment; initialiser = None }))
  variable_declared k v at linkage suits plain unlike h = (
    suits,
    (
      or_left (not (is_common linkage)) _ (not_from_false _ (declared_common linkage suits)),
      (
        or_left (not (is_appending linkage)) _ (not_from_false _ (declared_appending linkage suits)),
        (
          and_from _ _ (other_name (is_llvm_name v.name) _ unlike) refl,
          (
            void_free_same names v.ty ∙ free v.initialiser h.1.1.1.1.0,
            (
              h.1.1.1.1.1.0,
              (refl, tt),
            ),
          ),
        ),
      ),
    ),
  )
    where
      free : (c : Option _) → variable_type_suits m.structs v.ty c ≡ true → is_free_of_void v.ty ≡ true
      free None h = h
      free (Some c) h = memory_free m.structs v.ty (and_parts (lies_in_memory m.structs v.ty) _ h).0

  -- a name that begins `llvm.` is an intrinsic's, declared with its type
  declared_as : (f g : Function) → IsDeclarationOf names f g → (o : Option HostRow) → option_map_or (λ row. is_declared_as row f) o false ≡ true → option_map_or (λ row. is_declared_as row g) o false ≡ true
  declared_as f g is None h = cc
  declared_as f g is (Some row) h =
      let both = and_parts (is_none f.body) _ h in
      and_from _ _ (ap is_none is.body)
      (ap (λ (s : Signature). list_any (same_signature s) (host_types row)) is.types ∙ any_signature_kept names (signature_of f) (host_types row) (host_nameless row) both.1)

  name_suits : (f g : Function) → IsDeclarationOf names f g → function_name_suits f ≡ true → function_name_suits g ≡ true
  name_suits f g is h =
      ap (λ (name : Bytes). not (is_llvm_name name) || option_map_or (λ row. is_declared_as row g) (host_row name) false) is.name ∙ go (is_llvm_name f.name) h
    where
      go : (b : Bool) → (not b || option_map_or (λ row. is_declared_as row f) (host_row f.name) false) ≡ true → (not b || option_map_or (λ row. is_declared_as row g) (host_row f.name) false) ≡ true
      go false h = refl
      go true h = declared_as f g is (host_row f.name) h

  module _ (k : ℕ) (f g : Function) (at : slice_get m.functions k ≡ Some f) (is : IsDeclarationOf names f g) where
    all_types : (ps : List Parameter) → AllByRecursion (λ p. KnownTree m.structs p.ty) ps → AllByRecursion (KnownTree m.structs) (map (λ (p : Parameter). p.ty) ps)
    all_types [] a = tt
    all_types (p ∷ ps) a = (a.0, all_types ps a.1)

    types_declared : function_types_suit m.structs f ≡ true → function_types_suit n.structs g ≡ true
    types_declared h =
        let known = function_known m good k f at in
        let one = and_parts (list_all (λ (p : Parameter). is_passable m.structs p.ty) f.parameters) _ h in
        let two = and_parts (return_suits m.structs f.returns) _ one.1 in
        and_from _ _
        (sym (list_all-map (is_passable n.structs) (λ (p : Parameter). p.ty) g.parameters)
        ∙ ap (λ (s : Signature). list_all (is_passable n.structs) s.parameters) is.types
        ∙ all_passable_same m.structs n.structs names globals renames.structs (map (λ (p : Parameter). p.ty) f.parameters) (all_types f.parameters known.parameters)
        ∙ list_all-map (is_passable m.structs) (λ (p : Parameter). p.ty) f.parameters ∙ one.0)
        (and_from _ _
        (ap (λ (s : Signature). return_suits n.structs s.returns) is.types ∙ return_suits_same m.structs n.structs names globals renames.structs f.returns known.returns ∙ two.0)
        (or_right (not g.variadic) _ (ap is_none is.body)))

    -- a declaration made of a function
    pub function_declared : linkage_suits false g.linkage ≡ true → AllHold (function_demands m f) → AllHold (function_demands n g)
    function_declared suits h = (
      ap (λ (b : Option (List Block)). linkage_suits (is_some b) g.linkage) is.body ∙ suits,
      (
        not_from_false _ (declared_common g.linkage suits),
        (
          not_from_false _ (declared_appending g.linkage suits),
          (
            name_suits f g is h.1.1.1.0,
            (types_declared h.1.1.1.1.0, rest g.body is.body),
          ),
        ),
      ),
    )
      where
        rest : (b : Option (List Block)) → b ≡ None → AllHold (entry_demands g (body b) ++ blocks_demands n g 0 (body b))
        rest None e = tt
        rest (Some bs) e = cc
