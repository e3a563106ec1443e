-- Entries that are filed under their symbols one by one.
use Rattle.std.proofs.Common.{◌≡◌, Bool, true, false, not, cond, ◌||◌, List, [], ◌∷◌, ◌++◌, map, Some, refl, sym, ap, ◌∙◌, subst, filter, append-nil}
use Rattle.std.specs.Prelude.{unwrap_or}
use Rattle.std.specs.Map.{lookup}
use Rattle.std.proofs.lemmas.Bool.{both_ways}
use Rattle.std.proofs.lemmas.List.Elements.{filter-append}
use Rattle.indexmap.specs.IndexMap.{insert_entry}
use Rattle.linkage_rules.specs.declared.entry.EntryId.{EntryId}
use Rattle.linkage_rules.specs.Entries.{Symbol, same_symbol}
use Rattle.linkage_rules.specs.Grouped.{Rows, group_in, with_filed, IsFiled}
use Rattle.linkage_rules.specs.Lists.{firsts, has}
use Rattle.linkage_rules.specs.SymbolLaws.{symbol_self, symbol_exact}
use Rattle.linkage_rules.proofs.Lists.{other_way, has_firsts, firsts_has}

-- LISTS

pub map_joined : {A B : Type 0} (f : A → B) (xs ys : List A) → map f (xs ++ ys) ≡ map f xs ++ map f ys
map_joined f [] ys = refl
map_joined f (x ∷ xs) ys = ap (λ l. f x ∷ l) (map_joined f xs ys)

cond_twice : {A : Type 0} (b : Bool) (x y z : A) → cond b x z ≡ cond b x (cond b y z)
cond_twice true x y z = refl
cond_twice false x y z = refl

-- ONE MORE

pub firsts_more : (xs : List Symbol) (y : Symbol) → firsts same_symbol (xs ++ y ∷ []) ≡ cond (has same_symbol xs y) (firsts same_symbol xs) (firsts same_symbol xs ++ y ∷ [])
firsts_more [] y = refl
firsts_more (x ∷ xs) y = go (same_symbol y x) (has same_symbol xs y) refl refl (firsts_more xs y)
  where
    p : Symbol → Bool
    p z = not (same_symbol x z)

    last : (b : Bool) → p y ≡ b → filter p (firsts same_symbol xs ++ y ∷ []) ≡ filter p (firsts same_symbol xs) ++ cond b (y ∷ []) []
    last b e = filter-append p (firsts same_symbol xs) (y ∷ []) ∙ ap (λ c. filter p (firsts same_symbol xs) ++ cond c (y ∷ []) []) e

    go : (b c : Bool) → same_symbol y x ≡ b → has same_symbol xs y ≡ c → firsts same_symbol (xs ++ y ∷ []) ≡ cond c (firsts same_symbol xs) (firsts same_symbol xs ++ y ∷ []) → x ∷ filter p (firsts same_symbol (xs ++ y ∷ [])) ≡ cond (b || c) (x ∷ filter p (firsts same_symbol xs)) (x ∷ filter p (firsts same_symbol xs) ++ y ∷ [])
    go true true s h e = ap (λ l. x ∷ filter p l) e
    go false true s h e = ap (λ l. x ∷ filter p l) e
    go true false s h e =
        ap (λ l. x ∷ filter p l) e
        ∙ ap (λ l. x ∷ l) (last false (ap not (subst (λ z. same_symbol z y ≡ true) (symbol_exact y x s) (symbol_self y))) ∙ append-nil (filter p (firsts same_symbol xs)))
    go false false s h e =
        ap (λ l. x ∷ filter p l) e
        ∙ ap (λ l. x ∷ l) (last true (ap not (other_way same_symbol symbol_self symbol_exact y x s)))

has_same : (xs : List Symbol) (x : Symbol) → has same_symbol (firsts same_symbol xs) x ≡ has same_symbol xs x
has_same xs x = go (has same_symbol xs x) refl
  where
    go : (b : Bool) → has same_symbol xs x ≡ b → has same_symbol (firsts same_symbol xs) x ≡ b
    go true e = has_firsts same_symbol symbol_self symbol_exact xs x e
    go false e = firsts_has same_symbol symbol_self symbol_exact xs x e

keys_inserted : (rows : Rows) (s : Symbol) (ids : List EntryId) → map (λ r. r.0) (insert_entry same_symbol rows s ids) ≡ cond (has same_symbol (map (λ r. r.0) rows) s) (map (λ r. r.0) rows) (map (λ r. r.0) rows ++ s ∷ [])
keys_inserted [] s ids = refl
keys_inserted (r ∷ rows) s ids = go (same_symbol s r.0) (keys_inserted rows s ids)
  where
    moved : (b : Bool) (xs ys : List Symbol) → r.0 ∷ cond b xs ys ≡ cond b (r.0 ∷ xs) (r.0 ∷ ys)
    moved true xs ys = refl
    moved false xs ys = refl

    go : (b : Bool) → map (λ r. r.0) (insert_entry same_symbol rows s ids) ≡ cond (has same_symbol (map (λ r. r.0) rows) s) (map (λ r. r.0) rows) (map (λ r. r.0) rows ++ s ∷ []) → map (λ r. r.0) (cond b ((r.0, ids) ∷ rows) (r ∷ insert_entry same_symbol rows s ids)) ≡ cond (b || has same_symbol (map (λ r. r.0) rows) s) (r.0 ∷ map (λ r. r.0) rows) (r.0 ∷ map (λ r. r.0) rows ++ s ∷ [])
    go true e = refl
    go false e = ap (λ l. r.0 ∷ l) e ∙ moved (has same_symbol (map (λ r. r.0) rows) s) _ _

module _ {K V : Type 0} (same : K → K → Bool) (self : (x : K) → same x x ≡ true) (exact : (x y : K) → same x y ≡ true → x ≡ y) where
  pub found_inserted : (rows : List (K × V)) (s : K) (v : V) (t : K) → lookup (same t) (insert_entry same rows s v) ≡ cond (same t s) (Some v) (lookup (same t) rows)
  found_inserted [] s v t = refl
  found_inserted (r ∷ rows) s v t = go (same s r.0) refl (found_inserted rows s v t)
    where
      apart : (b c : Bool) → same t r.0 ≡ b → same t s ≡ c → same s r.0 ≡ false → cond b (Some r.1) (cond c (Some v) (lookup (same t) rows)) ≡ cond c (Some v) (cond b (Some r.1) (lookup (same t) rows))
      apart true true p q e = absurd (both_ways (same s r.0) e (subst (λ z. same z r.0 ≡ true) (exact t s q) p))
      apart true false p q e = refl
      apart false true p q e = refl
      apart false false p q e = refl

      go : (b : Bool) → same s r.0 ≡ b → lookup (same t) (insert_entry same rows s v) ≡ cond (same t s) (Some v) (lookup (same t) rows) → lookup (same t) (cond b ((r.0, v) ∷ rows) (r ∷ insert_entry same rows s v)) ≡ cond (same t s) (Some v) (cond (same t r.0) (Some r.1) (lookup (same t) rows))
      go true e h =
          subst (λ z. cond (same t z) (Some v) (lookup (same t) rows) ≡ cond (same t s) (Some v) (cond (same t z) (Some r.1) (lookup (same t) rows))) (exact s r.0 e)
          (cond_twice (same t s) (Some v) (Some r.1) (lookup (same t) rows))
      go false e h = ap (λ o. cond (same t r.0) (Some r.1) o) h ∙ apart (same t r.0) (same t s) refl refl e

-- what is filed so far, and one more
pub filed_more : (key : EntryId → Symbol) (ids : List EntryId) (rows : Rows) (id : EntryId) → IsFiled key ids rows → IsFiled key (ids ++ id ∷ []) (with_filed rows (key id) id)
filed_more key ids rows id h = record { keys = the_keys; groups = the_group }
  where
    the_keys : map (λ r. r.0) (with_filed rows (key id) id) ≡ firsts same_symbol (map key (ids ++ id ∷ []))
    the_keys =
        keys_inserted rows (key id) (group_in rows (key id) ++ id ∷ [])
        ∙ ap (λ ks. cond (has same_symbol ks (key id)) ks (ks ++ key id ∷ [])) h.keys
        ∙ ap (λ b. cond b (firsts same_symbol (map key ids)) (firsts same_symbol (map key ids) ++ key id ∷ [])) (has_same (map key ids) (key id))
        ∙ sym (firsts_more (map key ids) (key id))
        ∙ ap (firsts same_symbol) (sym (map_joined key ids (id ∷ [])))

    the_group : (s : Symbol) → group_in (with_filed rows (key id) id) s ≡ filter (λ x. same_symbol s (key x)) (ids ++ id ∷ [])
    the_group s =
        ap (λ o. unwrap_or o []) (found_inserted same_symbol symbol_self symbol_exact rows (key id) (group_in rows (key id) ++ id ∷ []) s)
        ∙ go (same_symbol s (key id)) refl
        ∙ sym (filter-append (λ x. same_symbol s (key x)) ids (id ∷ []))
      where
        go : (b : Bool) → same_symbol s (key id) ≡ b → unwrap_or (cond b (Some (group_in rows (key id) ++ id ∷ [])) (lookup (same_symbol s) rows)) [] ≡ filter (λ x. same_symbol s (key x)) ids ++ cond b (id ∷ []) []
        go true e =
            ap (λ l. l ++ id ∷ []) (subst (λ t. group_in rows t ≡ filter (λ x. same_symbol s (key x)) ids) (symbol_exact s (key id) e) (h.groups s))
        go false e = h.groups s ∙ sym (append-nil _)
