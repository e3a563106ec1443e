-- The structs of the linked module are good.
use Rattle.std.proofs.Common.{◌≡◌, ℕ, suc, ◌+◌, true, ◌&&◌, List, [], ◌∷◌, map, Some, refl, sym, ap, ◌∙◌, subst, option_map, cond, bytes_eq, arith}
use Rattle.std.specs.Prelude.{slice_get, slice_index_or}
use Rattle.std.specs.List.{AllByRecursion}
use Rattle.std.specs.Map.{lookup}
use Rattle.std.proofs.lemmas.Bool.{and_from, and_parts, or_left, or_right}
use Rattle.std.proofs.lemmas.Option.{slice_get-map}
use Rattle.linkage_rules.proofs.Gathered.{all_joined, all_mapped}
use Rattle.type_table.specs.Tree.{named, TreeBody, opaque_body, fields, Structs, body_of}
use Rattle.module_arena.specs.Module.{Bytes, Module, empty_module}
use Rattle.module_arena.specs.Renamed.{renamed_body}
use Rattle.module_arena.specs.WellFormed.{is_good_type, is_good_body, are_good_structs}
use Rattle.module_arena.proofs.ModuleSet.{map_map}
use Rattle.linkage_rules.specs.Entries.{part_at, structs_at}
use Rattle.linkage_rules.specs.declared.symbol.Symbol.{Symbol}
use Rattle.linkage_rules.specs.declared.symbol.Symbol.TheVariants.{Local}
use Rattle.link_rules.proofs.Apart.{Apart, apart_firsts, lookup_at}
use Rattle.linkage_rules.specs.SymbolLaws.{name_self}
use Rattle.linkage_rules.proofs.Entries.{all_follow}
use Rattle.link_rules.proofs.Symbols.{all_firsts}
use Rattle.link_rules.proofs.Agreed.{all_from_at}
use Rattle.link_rules.specs.Rename.{name_or}
use Rattle.link_rules.specs.Structs.{structs_from, struct_symbols, same_struct, struct_map, new_struct, linked_struct}
use Rattle.link_rules.specs.Linked.{link_result}
use Rattle.link_rules.proofs.StructRows.{Key, same_key, key_self, key_exact, key, first_keys, first_structs, struct_keys}
use Rattle.link_rules.proofs.Searches.{at_all}
use Rattle.link_rules.proofs.Parts.{all_true}
use Rattle.link_rules.specs.Valid.Laws.{AreLinkable}
use Rattle.link_rules.proofs.OnValid.Lists.{all_tested}
use Rattle.link_rules.proofs.OnValid.Types.{has_struct}
use Rattle.link_rules.proofs.OnValid.Known.{body_has}
use Rattle.link_rules.proofs.OnValid.Good.{types_good, good_type_kept}
use Rattle.link_rules.proofs.OnValid.Structs.{struct_good, linked_structs, linked_struct_there}
use Rattle.link_rules.proofs.OnValid.Renaming.{good_at}
use Rattle.link_rules.proofs.OnValid.Callees.{part_renames}

-- a struct of a part
pub record IsStructOf (look : ℕ → Module) (s : Symbol) : Type 0 where
  pub part : ℕ
  pub name : Bytes
  pub is : s ≡ Local part name
  pub there : has_struct (look part).structs name ≡ true

own_structs : (i : ℕ) (m : Module) (look : ℕ → Module) → look i ≡ m → (structs : Structs) → ((name : Bytes) → has_struct structs name ≡ true → has_struct m.structs name ≡ true) → AllByRecursion (IsStructOf look) (map (λ s. Local i s.0) structs)
own_structs i m look at [] f = tt
own_structs i m look at (s ∷ structs) f = (
  record { part = i; name = s.0; is = refl; there = subst (λ (n : Module). has_struct n.structs s.0 ≡ true) (sym at) (f s.0 (or_left _ _ (name_self s.0))) },
  own_structs i m look at structs (λ name h. f name (or_right (bytes_eq s.0 name) _ h)),
)

structs_are : (i : ℕ) (ms : List Module) (look : ℕ → Module) → ((k : ℕ) → look (i + k) ≡ slice_index_or ms k empty_module) → AllByRecursion (IsStructOf look) (structs_from i ms)
structs_are i [] look same = tt
structs_are i (m ∷ ms) look same =
    all_joined _ (map (λ s. Local i s.0) m.structs) (structs_from (suc i) ms)
    (own_structs i m look (ap look zero_more ∙ same 0) m.structs (λ name h. h))
    (structs_are (suc i) ms look (λ k. ap look (moved k) ∙ same (suc k)))
  where
    zero_more : i ≡ i + 0
    zero_more = omega arith

    moved : (k : ℕ) → suc i + k ≡ i + suc k
    moved k = omega arith

module _ (parts : List Module) (fine : AreLinkable parts) where
  symbols_are : AllByRecursion (IsStructOf (part_at parts)) (struct_symbols parts)
  symbols_are = structs_are 0 parts (part_at parts) (λ k. ap (part_at parts) (none k))
    where
      none : (k : ℕ) → 0 + k ≡ k
      none k = omega arith

  -- rows by keys
  keyed : (s : Symbol) (rows : List (Symbol × Bytes)) → lookup (same_struct parts s) rows ≡ lookup (same_key (key parts s)) (map {B = Key × Bytes} (λ r. (key parts r.0, r.1)) rows)
  keyed s [] = refl
  keyed s (r ∷ rows) = ap (λ o. cond (same_struct parts s r.0) (Some r.1) o) (keyed s rows)

  keys_apart : Apart same_key (map (λ r. r.0) (map {B = Key × Bytes} (λ r. (key parts r.0, r.1)) (struct_map parts)))
  keys_apart =
      subst (Apart same_key)
      (sym (map_map (λ r. r.0) (λ (r : Symbol × Bytes). (key parts r.0, r.1)) (struct_map parts) ∙ sym (map_map (key parts) (λ r. r.0) (struct_map parts)) ∙ ap (map (key parts)) (struct_keys parts) ∙ first_keys parts))
      (apart_firsts same_key key_self key_exact (map (key parts) (struct_symbols parts)))

  own_name : (k : ℕ) (s : Symbol) (name : Bytes) → slice_get (struct_map parts) k ≡ Some (s, name) → lookup (same_struct parts s) (struct_map parts) ≡ Some name
  own_name k s name at =
      keyed s (struct_map parts)
      ∙ lookup_at same_key key_self key_exact (map {B = Key × Bytes} (λ r. (key parts r.0, r.1)) (struct_map parts)) k (key parts s) name keys_apart (slice_get-map {B = Key × Bytes} (λ r. (key parts r.0, r.1)) (struct_map parts) k ∙ ap (option_map {U = Key × Bytes} (λ r. (key parts r.0, r.1))) at)

  body_good : (i : ℕ) (body : TreeBody) → is_good_body (structs_at parts i) body ≡ true → is_good_body (link_result parts).structs (renamed_body (new_struct parts i) body) ≡ true
  body_good i opaque_body h = refl
  body_good i (fields packed ts) h = types_good (structs_at parts i) (link_result parts).structs (new_struct parts i) (linked_structs parts i (good_at parts fine i).structs) (linked_struct_there parts i (good_at parts fine i).structs) ts h

  abbrev IsGoodRow : Bytes × TreeBody → Type 0
  IsGoodRow r = (is_good_body (link_result parts).structs r.1 && is_good_type (link_result parts).structs (named r.0)) ≡ true

  row_good : (k : ℕ) (r : Symbol × Bytes) → slice_get (struct_map parts) k ≡ Some r → IsGoodRow (linked_struct parts r)
  row_good k r at =
      let place : slice_get (first_structs parts) k ≡ Some r.0 = ap (λ l. slice_get l k) (sym (struct_keys parts)) ∙ slice_get-map (λ q. q.0) (struct_map parts) k ∙ ap (option_map (λ q. q.0)) at in
      let of_part = at_all (IsStructOf (part_at parts)) (first_structs parts) k r.0 (all_firsts _ (same_struct parts) (struct_symbols parts) symbols_are) place in
      let i = of_part.part in
      let good = (good_at parts fine i).structs in
      let old = struct_good (structs_at parts i) (structs_at parts i) of_part.name good of_part.there in
      let new_name : new_struct parts i of_part.name ≡ r.1 = ap (λ (s : Symbol). name_or of_part.name (lookup (same_struct parts s) (struct_map parts))) (sym of_part.is) ∙ ap (name_or of_part.name) (own_name k r.0 r.1 at) in
      let body = body_has (λ b. is_good_body (structs_at parts i) b ≡ true) (structs_at parts i) of_part.name refl (all_follow _ _ (structs_at parts i) (λ s e. (and_parts (is_good_body (structs_at parts i) s.1) _ e).0) (all_true _ (structs_at parts i) good)) in
      subst (λ (s : Symbol). IsGoodRow (linked_struct parts (s, r.1))) (sym of_part.is)
      (and_from _ _ (body_good i (body_of (structs_at parts i) of_part.name) body)
      (subst (λ n. is_good_type (link_result parts).structs (named n) ≡ true) new_name (good_type_kept (part_at parts i) (link_result parts) (new_struct parts i) _ (part_renames parts fine i) (named of_part.name) old)))

  pub structs_good : are_good_structs (link_result parts).structs ≡ true
  structs_good = all_tested _ (link_result parts).structs (all_mapped IsGoodRow (linked_struct parts) (struct_map parts) (all_from_at (λ r. IsGoodRow (linked_struct parts r)) (struct_map parts) row_good))
