-- Names are given as the definition gives them, though they are kept in another order.
use Rattle.std.proofs.Common.{◌≡◌, ℕ, ◌+◌, cond, ◌||◌, List, [], ◌∷◌, ◌++◌, map, length, drop, Some, refl, sym, ap, ap₂, ◌∙◌, bytes_eq, append-nil, append_assoc}
use Rattle.std.specs.Prelude.{slice_get, true, false}
use Rattle.std.specs.List.{list_all}
use Rattle.std.proofs.lemmas.List.Folds.{list_any-append}
use Rattle.module_arena.specs.Module.{Bytes, Module}
use Rattle.linkage_rules.specs.Entries.{symbol_name}
use Rattle.linkage_rules.specs.Lists.{has}
use Rattle.linkage_rules.specs.declared.symbol.Symbol.{Symbol}
use Rattle.linkage_rules.specs.declared.symbol.Symbol.TheVariants.{Shared, Local}
use Rattle.linkage_rules.specs.Symbols.{symbols}
use Rattle.linkage_rules.proofs.Steps.{drop_more, drop_whole}
use Rattle.link_rules.specs.Rename.{all_names, base_of, with_given_names, new_name, renaming, shared_names}
use Rattle.link_names.specs.Naming.{GivesName, HasMore, TakenNames, SameNames, is_shared}
use Rattle.link_names.proofs.FirstFree.{fresh_same}

-- equal names in front of equal names
pub joined_same : (xs ys vs ws : List Bytes) → SameNames xs ys → SameNames vs ws → SameNames (xs ++ vs) (ys ++ ws)
joined_same xs ys vs ws front behind name =
    list_any-append (bytes_eq name) xs vs ∙ ap₂ (λ a b. a || b) (front name) (behind name) ∙ sym (list_any-append (bytes_eq name) ys ws)

-- one name more
one_more_same : (xs ys : List Bytes) (new : Bytes) → SameNames xs ys → SameNames (new ∷ xs) (new ∷ ys)
one_more_same xs ys new same name = ap (λ b. bytes_eq name new || b) (same name)

-- names in the second column
abbrev pub new_ones : List (Symbol × Bytes) → List Bytes
new_ones rows = map (λ (r : Symbol × Bytes). r.1) rows

module _ (base : Bytes → Bytes) where
  -- a new name depends on which names are taken alone
  pub new_name_same : (xs ys vs ws : List Bytes) (name : Bytes) → SameNames xs ys → SameNames vs ws → new_name base vs xs name ≡ new_name base ws ys name
  new_name_same xs ys vs ws name given everywhere =
      ap₂ (λ b n. cond b n name) (given name) (fresh_same (xs ++ vs) (ys ++ ws) (base name) (joined_same xs ys vs ws given everywhere))

  -- and so do the names of symbols, one behind the other
  pub named_same : (ss : List Symbol) (xs ys vs ws : List Bytes) → SameNames xs ys → SameNames vs ws → new_ones (with_given_names base vs xs ss) ≡ new_ones (with_given_names base ws ys ss)
  named_same [] xs ys vs ws given everywhere = refl
  named_same (Shared name ∷ ss) xs ys vs ws given everywhere = ap (λ l. name ∷ l) (named_same ss xs ys vs ws given everywhere)
  named_same (Local part name ∷ ss) xs ys vs ws given everywhere =
      let one = new_name_same xs ys vs ws name given everywhere in
      ap₂ (λ n l. n ∷ l) one
      (ap (λ n. new_ones (with_given_names base vs (n ∷ xs) ss)) one
      ∙ named_same ss (new_name base ws ys name ∷ xs) (new_name base ws ys name ∷ ys) vs ws (one_more_same xs ys (new_name base ws ys name) given) everywhere)

-- the next symbol's name, and what is named behind it
named_next : (everywhere : List Bytes) (before now : TakenNames) (s : Symbol) (new : Bytes) (rest : List Symbol) → SameNames before.avoided everywhere → GivesName before s new now
    → new_ones (with_given_names base_of everywhere before.given (s ∷ rest)) ≡ new ∷ new_ones (with_given_names base_of everywhere now.given rest)
named_next everywhere before now (Shared name) new rest avoided gives =
    ap₂ (λ n (v : TakenNames). n ∷ new_ones (with_given_names base_of everywhere v.given rest)) (sym gives.0) (sym gives.1)
named_next everywhere before now (Local part name) new rest avoided gives =
    let one : new_name base_of everywhere before.given name ≡ new = sym (gives.0 ∙ new_name_same base_of before.given before.given before.avoided everywhere name (λ n. refl) avoided) in
    ap₂ (λ n l. n ∷ l) one
    (ap (λ n. new_ones (with_given_names base_of everywhere (n ∷ before.given) rest)) one
    ∙ named_same base_of rest (new ∷ before.given) now.given everywhere everywhere (λ n. sym (gives.1 n)) (λ n. refl))

-- one symbol further
pub named_more : (everywhere : List Bytes) (before now : TakenNames) (ss : List Symbol) (k : ℕ) (s : Symbol) (new : Bytes) (names after all : List Bytes) → slice_get ss k ≡ Some s → SameNames before.avoided everywhere → GivesName before s new now → after ≡ names ++ new ∷ []
    → names ++ new_ones (with_given_names base_of everywhere before.given (drop k ss)) ≡ all → after ++ new_ones (with_given_names base_of everywhere now.given (drop (k + 1) ss)) ≡ all
named_more everywhere before now ss k s new names after all at avoided gives pushed so_far =
    ap (λ l. l ++ new_ones (with_given_names base_of everywhere now.given (drop (k + 1) ss))) pushed
    ∙ append_assoc names (new ∷ []) (new_ones (with_given_names base_of everywhere now.given (drop (k + 1) ss)))
    ∙ ap (λ l. names ++ l) (sym (ap (λ l. new_ones (with_given_names base_of everywhere before.given l)) (drop_more ss k s at) ∙ named_next everywhere before now s new (drop (k + 1) ss) avoided gives))
    ∙ so_far

-- names behind none are the same names
pub same_behind_none : (old names now : List Bytes) → old ≡ [] → HasMore old names now → SameNames now names
same_behind_none old names now none more name = more name ∙ ap (λ l. has bytes_eq (names ++ l) name) none ∙ ap (λ l. has bytes_eq l name) (append-nil names)

-- all are named
pub named_end : (everywhere given names all : List Bytes) (ss : List Symbol) (k : ℕ) → k ≡ length ss → names ++ new_ones (with_given_names base_of everywhere given (drop k ss)) ≡ all → names ≡ all
named_end everywhere given names all ss k end so_far =
    sym (append-nil names) ∙ ap (λ l. names ++ new_ones (with_given_names base_of everywhere given l)) (sym (ap (λ n. drop n ss) end ∙ drop_whole ss)) ∙ so_far

-- all of them, before the first is given
pub named_all : (parts : List Module) (ss : List Symbol) (given : List Bytes) → ss ≡ symbols parts → SameNames given (shared_names ss) → new_ones (with_given_names base_of (all_names parts) given ss) ≡ new_ones (renaming parts)
named_all parts ss given is same =
    named_same base_of ss given (shared_names ss) (all_names parts) (all_names parts) same (λ n. refl)
    ∙ ap (λ l. new_ones (with_given_names base_of (all_names parts) (shared_names l) l)) is

-- where all parts share each symbol, each keeps its name
pub shared_keep : (everywhere given : List Bytes) (ss : List Symbol) → list_all is_shared ss ≡ true → map symbol_name ss ≡ new_ones (with_given_names base_of everywhere given ss)
shared_keep everywhere given [] all = refl
shared_keep everywhere given (Shared name ∷ ss) all = ap (λ l. name ∷ l) (shared_keep everywhere given ss all)
shared_keep everywhere given (Local part name ∷ ss) all = let no : false ≡ true = all in absurd (cc)

-- so do all of some parts
pub all_shared_keep : (parts : List Module) (ss : List Symbol) → ss ≡ symbols parts → list_all is_shared ss ≡ true → map symbol_name ss ≡ new_ones (renaming parts)
all_shared_keep parts ss is all =
    shared_keep (all_names parts) (shared_names ss) ss all ∙ named_all parts ss (shared_names ss) is (λ n. refl)
