-- The types of a module are read of their records, one behind the other.
use Rattle.std.proofs.Common.{◌≡◌, ℕ, suc, ◌+◌, true, List, [], ◌∷◌, ◌++◌, length, Option, Some, None, Ok, refl, sym, ap, ◌∙◌, append-nil, append_assoc, arith}
use Rattle.std.proofs.lemmas.List.{length-map, map_push}
use Rattle.std.specs.Prelude.{map}
use Rattle.std.specs.List.{AllByRecursion, list_all, fold}
use Rattle.bit_tree.specs.Written.{Written}
use Rattle.type_table.specs.Tree.{Tree, opaque_body, named, Structs}
use Rattle.type_table.specs.Types.{Types, trees, structs, grow, with_type}
use Rattle.type_table.specs.Types as table
use Rattle.type_table.specs.Shape.{shape}
use Rattle.type_table.specs.declared.ir_type.StructBody.{StructBody}
use Rattle.module_arena.specs.Module.{Bytes}
use Rattle.module_arena.specs.WellFormed.{is_within_limits}
use Rattle.record_table.specs.Layout.{judged}
use Rattle.record_table.specs.Fields.{Texts}
use Rattle.record_table.specs.Faults.{Answer, ◌>>=◌}
use Rattle.record_table.specs.TypeRecords.{TypeKind, OfInt, OfPtr, OfVoid, OfArray, OfStruct, OfName, kind_code, kinds, kind_of, kind_of_code, ir_type, all_fit, Listed, type_record, listed_by, listed_from}
use Rattle.record_table.specs.Spelling.{put, records_put, by_ids, type_line}
use Rattle.record_law.proofs.OnTypes.LessDefined.{fits_opaque}
use Rattle.record_law.proofs.OnTypes.TypesInOrder.{parts_in, AreThere}
use Rattle.record_law.proofs.OnTypes.TypesById.{IsWide, IsNamedBy, type_judged}
use Rattle.record_law.proofs.OnTypes.TypesFront.{StandsOn, one_behind, grows}

kind_found : (kind : TypeKind) → kind_of_code (kind_code kind) kinds ≡ Some kind
kind_found OfInt = refl
kind_found OfPtr = refl
kind_found OfVoid = refl
kind_found OfArray = refl
kind_found OfStruct = refl
kind_found OfName = refl

pub all_within : (bodies : Structs) (ts : List Tree) → AllByRecursion (λ t. is_within_limits (shape bodies t) ≡ true) ts → list_all is_within_limits (map (shape bodies) ts) ≡ true
all_within bodies [] fit = refl
all_within bodies (t ∷ ts) fit = rw (fit.0, all_within bodies ts fit.1) refl

-- structs by their names alone
abbrev pub undefined : List Bytes → List (Bytes × Option StructBody)
undefined names = map (λ n. (n, None)) names

pub names_kept : (names : List Bytes) → map (λ (s : Bytes × Option StructBody). s.0) (undefined names) ≡ names
names_kept [] = refl
names_kept (n ∷ names) = ap (λ all. n ∷ all) (names_kept names)

bodies_opaque : (names : List Bytes) (done : List Tree) → map (table.tree_struct done) (undefined names) ≡ map (λ n. (n, opaque_body)) names
bodies_opaque [] done = refl
bodies_opaque (n ∷ names) done = ap (λ all. (n, opaque_body) ∷ all) (bodies_opaque names done)

module _ (texts : Texts) (bodies : Structs) (all : List Tree) (names : List Bytes) where
  -- types that are done, before any struct
  abbrev pub types_of : List Tree → Types
  types_of done = record { types = map (by_ids all names) done; structs = undefined names }

  abbrev pub listed_at : List Tree → ℕ → Listed
  listed_at done at = record { texts = texts; at = at; types = types_of done; names = [] }

  -- within the limits, of a width from 1 to 128, and a struct of the module
  pub record IsGood (t : Tree) : Type 0 where
    pub within : is_within_limits (shape bodies t) ≡ true
    pub wide : IsWide t
    pub known : IsNamedBy names t

  pub known_all : (ts : List Tree) → AllByRecursion IsGood ts → AllByRecursion (IsNamedBy names) ts
  known_all [] good = tt
  known_all (t ∷ ts) good = (good.0.known, known_all ts good.1)

  trees_are : (done rest : List Tree) → all ≡ done ++ rest → StandsOn [] done → AllByRecursion IsGood done → trees (types_of done) ≡ done
  trees_are done rest e stands good =
      ap (λ ns. fold (grow ns) [] (map (by_ids all names) done)) (names_kept names) ∙ grows all names done [] rest e stands (known_all done good)

  opaque_within : (ts : List Tree) → AllByRecursion (λ t. is_within_limits (shape bodies t) ≡ true) ts → AllByRecursion (λ t. is_within_limits (shape (map (λ n. (n, opaque_body)) names) t) ≡ true) ts
  opaque_within [] good = tt
  opaque_within (t ∷ ts) good = (fits_opaque names bodies t good.0, opaque_within ts good.1)

  pub both_within : (done others : List Tree) → AllByRecursion IsGood done → AllByRecursion (λ t. is_within_limits (shape bodies t) ≡ true) others → AllByRecursion (λ t. is_within_limits (shape bodies t) ≡ true) (done ++ others)
  both_within [] others good more = more
  both_within (t ∷ done) others good more = (good.0.within, both_within done others good.1 more)

  front_fits : (done rest : List Tree) → all ≡ done ++ rest → StandsOn [] done → AllByRecursion IsGood done → AllByRecursion (λ t. is_within_limits (shape bodies t) ≡ true) (map named names)
      → all_fit (types_of done) ≡ true
  front_fits done rest e stands good within =
      ap (λ ts. list_all is_within_limits (map (shape (structs (types_of done))) (ts ++ map named (table.names (types_of done))))) (trees_are done rest e stands good)
      ∙ ap (λ ns. list_all is_within_limits (map (shape (structs (types_of done))) (done ++ map named ns))) (names_kept names)
      ∙ ap (λ bs. list_all is_within_limits (map (shape bs) (done ++ map named names))) (bodies_opaque names (trees (types_of done)))
      ∙ all_within (map (λ n. (n, opaque_body)) names) (done ++ map named names) (opaque_within (done ++ map named names) (both_within done (map named names) good within))

  placed : (done : List Tree) (at : ℕ) (t : Tree) → all_fit (with_type (types_of done) (by_ids all names t)) ≡ true
      → type_record (listed_at done at) (by_ids all names t, None) ≡ Ok (record (listed_at done at) { at = suc at; types = with_type (types_of done) (by_ids all names t) })
  placed done at t fits = rw fits refl

  type_step : (done rest : List Tree) (at : ℕ) (t : Tree) → all ≡ done ++ (t ∷ rest) → StandsOn [] (done ++ t ∷ []) → AllByRecursion IsGood (done ++ t ∷ []) → AreThere done (parts_in t) → IsGood t
      → AllByRecursion (λ t. is_within_limits (shape bodies t) ≡ true) (map named names)
      → listed_by (listed_at done at) (type_line (by_ids all names t)).0 (type_line (by_ids all names t)).1 (kind_of_code (type_line (by_ids all names t)).0 kinds) ≡ Ok (listed_at (done ++ t ∷ []) (suc at))
  type_step done rest at t e stands goods there good within =
      let x = by_ids all names t in
      let operands = (ir_type 0 0 (kind_of x)).spell x in
      let again : map (by_ids all names) (done ++ t ∷ []) ≡ map (by_ids all names) done ++ x ∷ [] = map_push (by_ids all names) done t in
      ap (listed_by (listed_at done at) (kind_code (kind_of x)) operands) (kind_found (kind_of x))
      ∙ ap (λ count. type_record (listed_at done at) (judged (ir_type count (length (undefined names)) (kind_of x)) operands)) (length-map done (by_ids all names))
      ∙ ap (λ count. type_record (listed_at done at) (judged (ir_type (length done) count (kind_of x)) operands)) (length-map names (λ (n : Bytes). (n, None)))
      ∙ ap (λ y. type_record (listed_at done at) (judged (ir_type (length done) (length names) (kind_of y)) ((ir_type 0 0 (kind_of y)).spell y))) (ap (λ a. by_ids a names t) e)
      ∙ ap (type_record (listed_at done at)) (type_judged done (t ∷ rest) names t there good.wide good.known)
      ∙ ap (λ a. type_record (listed_at done at) (by_ids a names t, None)) (sym e)
      ∙ placed done at t (ap (λ ts. all_fit (record { types = ts; structs = undefined names })) (sym again) ∙ front_fits (done ++ t ∷ []) rest (e ∙ sym (append_assoc done (t ∷ []) rest)) stands goods within)
      ∙ ap (λ ts. Ok (record { texts = texts; at = suc at; types = record { types = ts; structs = undefined names }; names = [] })) (sym again)

  -- all types, one behind the other
  pub types_put : (rest done : List Tree) (at : ℕ) (behind : Written) → all ≡ done ++ rest → StandsOn done rest → StandsOn [] done → AllByRecursion IsGood done → AllByRecursion IsGood rest
      → AllByRecursion (λ t. is_within_limits (shape bodies t) ≡ true) (map named names)
      → listed_from (listed_at done at) (records_put (put (map (λ t. type_line (by_ids all names t)) rest) behind)) ≡ listed_from (listed_at all (at + length rest)) (records_put behind)
  types_put [] done at behind e stands before goods good within =
      ap (λ ts. listed_from (listed_at ts at) (records_put behind)) (sym (e ∙ append-nil done)) ∙ ap (λ n. listed_from (listed_at all n) (records_put behind)) (omega arith)
  types_put (t ∷ rest) done at behind e stands before goods good within =
      let more = map (λ t. type_line (by_ids all names t)) rest in
      let with_it = one_behind [] done t before stands.0 in
      let goods_with_it = goods_and done t goods good.0 in
      ap (λ (answer : Answer Listed). answer >>= λ s. listed_from s (records_put (put more behind))) (type_step done rest at t e with_it goods_with_it stands.0 good.0 within)
      ∙ types_put rest (done ++ t ∷ []) (suc at) behind (e ∙ sym (append_assoc done (t ∷ []) rest)) stands.1 with_it goods_with_it good.1 within
      ∙ ap (λ n. listed_from (listed_at all n) (records_put behind)) (omega arith)
    where
      goods_and : (ts : List Tree) (t : Tree) → AllByRecursion IsGood ts → IsGood t → AllByRecursion IsGood (ts ++ t ∷ [])
      goods_and [] t goods good = (good, tt)
      goods_and (s ∷ ts) t goods good = (goods.0, goods_and ts t goods.1 good)
