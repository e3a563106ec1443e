-- Functions that are kept or declared are what they are asked for.
use Rattle.std.proofs.Common.{◌≡◌, ℕ, suc, Bool, true, false, not, ◌&&◌, ◌||◌, List, [], ◌∷◌, map, Option, Some, None, refl, ap, ◌∙◌, subst, is_some, is_none}
use Rattle.std.specs.Option.{option_map_or}
use Rattle.std.specs.List.{list_any, list_all}
use Rattle.std.proofs.lemmas.Bool.{and_from, and_parts, or_left, or_right, not_from_false, not-true}
use Rattle.std.proofs.lemmas.Option.{same_Some}
use Rattle.ir_tables.specs.declared.linkage.Linkage.{Linkage}
use Rattle.ir_tables.specs.declared.linkage.Linkage.TheVariants.{External, Private, Internal, Common, Appending, ExternWeak, AvailableExternally, Linkonce, LinkonceOdr, Weak, WeakOdr}
use Rattle.type_table.specs.Tree.{Tree}
use Rattle.module_arena.specs.Module.{Parameter, Variable, AliasType, PlainType, FunctionType, Alias, Function, Module}
use Rattle.module_arena.specs.TypeTests.{is_passable}
use Rattle.module_arena.specs.declared.host.HostRow.{HostRow}
use Rattle.module_arena.specs.HostRows.{host_row, host_types, same_signature, is_declared_as}
use Rattle.module_arena.specs.Functions.{blocks, numbered_parameters}
use Rattle.module_arena.specs.EntryRules.{linkage_suits, is_common, is_appending, is_lasting, is_llvm_name, function_name_suits, return_suits, alias_types_suit}
use Rattle.module_arena.specs.Valid.{AllHold, alias_demands, function_demands}
use Rattle.extract_rules.specs.Extracted.{kept_linkage, declared_linkage, declared_function, alias_as_function}
use Rattle.extract_rules.proofs.OnValid.Bodies.{NoMore, with_entries, body_same}

-- LINKAGES

pub kept_suits : (b : Bool) (l : Linkage) → linkage_suits b l ≡ true → linkage_suits b (kept_linkage l) ≡ true
kept_suits true Private h = refl
kept_suits true Internal h = refl
kept_suits true External h = refl
kept_suits true Common h = refl
kept_suits true Appending h = refl
kept_suits true ExternWeak h = cc
kept_suits true AvailableExternally h = refl
kept_suits true Linkonce h = refl
kept_suits true LinkonceOdr h = refl
kept_suits true Weak h = refl
kept_suits true WeakOdr h = refl
kept_suits false Private h = refl
kept_suits false Internal h = refl
kept_suits false External h = refl
kept_suits false ExternWeak h = refl
kept_suits false Common h = cc
kept_suits false Appending h = cc
kept_suits false AvailableExternally h = cc
kept_suits false Linkonce h = cc
kept_suits false LinkonceOdr h = cc
kept_suits false Weak h = cc
kept_suits false WeakOdr h = cc

pub kept_common : (l : Linkage) → is_common (kept_linkage l) ≡ is_common l
kept_common Private = refl
kept_common Internal = refl
kept_common External = refl
kept_common Common = refl
kept_common Appending = refl
kept_common ExternWeak = refl
kept_common AvailableExternally = refl
kept_common Linkonce = refl
kept_common LinkonceOdr = refl
kept_common Weak = refl
kept_common WeakOdr = refl

pub kept_appending : (l : Linkage) → is_appending (kept_linkage l) ≡ is_appending l
kept_appending Private = refl
kept_appending Internal = refl
kept_appending External = refl
kept_appending Common = refl
kept_appending Appending = refl
kept_appending ExternWeak = refl
kept_appending AvailableExternally = refl
kept_appending Linkonce = refl
kept_appending LinkonceOdr = refl
kept_appending Weak = refl
kept_appending WeakOdr = refl

pub kept_lasting : (l : Linkage) → is_lasting l ≡ true → is_lasting (kept_linkage l) ≡ true
kept_lasting External h = refl
kept_lasting Private h = refl
kept_lasting Internal h = refl
kept_lasting Common h = cc
kept_lasting Appending h = cc
kept_lasting ExternWeak h = cc
kept_lasting AvailableExternally h = cc
kept_lasting Linkonce h = cc
kept_lasting LinkonceOdr h = cc
kept_lasting Weak h = cc
kept_lasting WeakOdr h = cc

abbrev pub SuitsDeclared : Linkage → Type 0
SuitsDeclared l = (linkage_suits false l ≡ true) × (not (is_common l) ≡ true) × (not (is_appending l) ≡ true)

pub declared_suits : (l : Linkage) → SuitsDeclared (declared_linkage l)
declared_suits ExternWeak = (refl, refl, refl)
declared_suits External = (refl, refl, refl)
declared_suits Private = (refl, refl, refl)
declared_suits Internal = (refl, refl, refl)
declared_suits Common = (refl, refl, refl)
declared_suits Appending = (refl, refl, refl)
declared_suits AvailableExternally = (refl, refl, refl)
declared_suits Linkonce = (refl, refl, refl)
declared_suits LinkonceOdr = (refl, refl, refl)
declared_suits Weak = (refl, refl, refl)
declared_suits WeakOdr = (refl, refl, refl)

-- DECLARATIONS

abbrev type_of : Parameter → Tree
type_of p = p.ty

types_numbered : (k : ℕ) (ts : List Tree) → map type_of (numbered_parameters k ts) ≡ ts
types_numbered k [] = refl
types_numbered k (t ∷ ts) = ap (λ l. t ∷ l) (types_numbered (suc k) ts)

pub passable_from : (test : Tree → Bool) (k : ℕ) (ts : List Tree) → list_all (λ (p : Parameter). test p.ty) (numbered_parameters k ts) ≡ list_all test ts
passable_from test k [] = refl
passable_from test k (t ∷ ts) = ap (λ b. test t && b) (passable_from test (suc k) ts)

passable_types : (test : Tree → Bool) (ps : List Parameter) → list_all test (map type_of ps) ≡ list_all (λ (p : Parameter). test p.ty) ps
passable_types test [] = refl
passable_types test (p ∷ ps) = ap (λ b. test p.ty && b) (passable_types test ps)

pub passable_numbered : (test : Tree → Bool) (ps : List Parameter) → list_all (λ (p : Parameter). test p.ty) (numbered_parameters 0 (map type_of ps)) ≡ list_all (λ (p : Parameter). test p.ty) ps
passable_numbered test ps = passable_from test 0 (map type_of ps) ∙ passable_types test ps

row_kept : (f : Function) (row : HostRow) → is_declared_as row f ≡ true → is_declared_as row (declared_function f) ≡ true
row_kept f row h =
    ap (λ (ts : List Tree). list_any (same_signature (record { returns = f.returns; parameters = ts; variadic = f.variadic })) (host_types row)) (types_numbered 0 (map type_of f.parameters))
    ∙ (and_parts (is_none f.body) _ h).1

name_kept : (f : Function) → function_name_suits f ≡ true → function_name_suits (declared_function f) ≡ true
name_kept f h = go (is_llvm_name f.name) h
  where
    by_row : (o : Option HostRow) → option_map_or (λ row. is_declared_as row f) o false ≡ true → option_map_or (λ row. is_declared_as row (declared_function f)) o false ≡ true
    by_row None h = cc
    by_row (Some row) h = row_kept f row h

    go : (b : Bool) → (not b || option_map_or (λ row. is_declared_as row f) (host_row f.name) false) ≡ true → (not b || option_map_or (λ row. is_declared_as row (declared_function f)) (host_row f.name) false) ≡ true
    go false h = refl
    go true h = by_row (host_row f.name) h

module _ (m : Module) (vs : List Variable) (as_ : List Alias) (fs : List Function) where
  abbrev n : Module
  n = with_entries m vs as_ fs

  pub function_kept : NoMore m n → (f : Function) → AllHold (function_demands m f) → AllHold (function_demands n (record f { linkage = kept_linkage f.linkage }))
  function_kept none f h = (
    kept_suits (is_some f.body) f.linkage h.0,
    (
      ap not (kept_common f.linkage) ∙ h.1.0,
      (
        ap not (kept_appending f.linkage) ∙ h.1.1.0,
        (h.1.1.1.0, (h.1.1.1.1.0, body_same m vs as_ fs none f (kept_linkage f.linkage) (blocks f) h.1.1.1.1.1)),
      ),
    ),
  )

  pub function_declared : (f : Function) → AllHold (function_demands m f) → AllHold (function_demands n (declared_function f))
  function_declared f h =
      let suits = declared_suits f.linkage in
      let one = and_parts (list_all (λ (p : Parameter). is_passable m.structs p.ty) f.parameters) _ h.1.1.1.1.0 in
      let two = and_parts (return_suits m.structs f.returns) _ one.1 in (
        suits.0,
        (
          suits.1,
          (
            suits.2,
            (
              name_kept f h.1.1.1.0,
              (and_from _ _ (passable_numbered (is_passable m.structs) f.parameters ∙ one.0) (and_from _ _ two.0 (or_right (not f.variadic) _ refl)), tt),
            ),
          ),
        ),
      )

  pub alias_function : (a : Alias) (g : Function) → alias_as_function a.name a.ty ≡ Some g → AllHold (alias_demands m a) → AllHold (function_demands n g)
  alias_function a g e h = by_type a.ty h.1.1.1.1.0 e
    where
      plain : is_llvm_name a.name ≡ false
      plain = not-true _ (and_parts (not (is_llvm_name a.name)) _ h.1.1.1.0).0

      by_type : (t : AliasType) → alias_types_suit m.structs t ≡ true → alias_as_function a.name t ≡ Some g → AllHold (function_demands n g)
      by_type (PlainType ty) suits e = cc
      by_type (FunctionType signature) suits e =
          let both = and_parts (list_all (is_passable m.structs) signature.parameters) _ suits in
          subst (λ (x : Function). AllHold (function_demands n x)) (same_Some _ g e) (
            refl,
            (
              refl,
              (
                refl,
                (
                  or_left (not (is_llvm_name a.name)) _ (not_from_false _ plain),
                  (and_from _ _ (passable_from (is_passable m.structs) 0 signature.parameters ∙ both.0) (and_from _ _ both.1 (or_right (not signature.variadic) _ refl)), tt),
                ),
              ),
            ),
          )
