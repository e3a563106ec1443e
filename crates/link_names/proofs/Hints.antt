-- Hints stay true where names are added, and where one more is kept.
use Rattle.std.proofs.Common.{◌≡◌, ℕ, ◌≤◌, Bool, true, false, cond, ◌||◌, List, ◌++◌, Option, Some, None, Result, Ok, Err, OnOk, refl, sym, ◌∙◌, subst, bytes_eq, unwrap_or, arith}
use Rattle.std.specs.Prelude.{OnErr}
use Rattle.std.specs.Map.{lookup}
use Rattle.std.proofs.lemmas.Bool.{or_left, or_right}
use Rattle.std.proofs.lemmas.Option.{same_Some}
use Rattle.std.proofs.lemmas.List.Folds.{list_any-append}
use Rattle.module_arena.specs.Module.{Bytes}
use Rattle.linkage_rules.specs.Lists.{has}
use Rattle.link_rules.specs.Rename.{dotted}
use Rattle.linkage_rules.specs.SymbolLaws.{name_exact}
use Rattle.link_names.specs.Naming.{HasOneMore, AllTaken, AreHints}

-- what is taken stays taken
abbrev pub Keeps : List Bytes → List Bytes → Type 0
Keeps xs ys = (name : Bytes) → has bytes_eq xs name ≡ true → has bytes_eq ys name ≡ true

pub hints_keep : (hints : List (Bytes × ℕ)) (xs ys : List Bytes) → Keeps xs ys → AreHints hints xs → AreHints hints ys
hints_keep hints xs ys k h base number at = let g = h base number at in (g.0, λ n first below. k (dotted base n) (g.1 n first below))

more_kept : (b : Bool) (xs ys : List Bytes) (name : Bytes) → has bytes_eq ys name ≡ (b || has bytes_eq xs name) → has bytes_eq xs name ≡ true → has bytes_eq ys name ≡ true
more_kept b xs ys name e h = e ∙ or_right b (has bytes_eq xs name) h

-- one name more in front of others
pub front_kept : (xs ys vs : List Bytes) (new : Bytes) → HasOneMore xs new ys → Keeps (xs ++ vs) (ys ++ vs)
front_kept xs ys vs new more name h = list_any-append (bytes_eq name) ys vs ∙ go (has bytes_eq xs name) (has bytes_eq vs name) (more_kept (bytes_eq name new) xs ys name (more name)) refl (sym (list_any-append (bytes_eq name) xs vs) ∙ h)
  where
    go : (a b : Bool) → (has bytes_eq xs name ≡ true → has bytes_eq ys name ≡ true) → has bytes_eq xs name ≡ a → (a || b) ≡ true → (has bytes_eq ys name || b) ≡ true
    go true b k e f = or_left _ b (k e)
    go false b k e f = or_right (has bytes_eq ys name) b f

-- and behind them
pub behind_kept : (xs ys vs : List Bytes) (new : Bytes) → HasOneMore xs new ys → Keeps (vs ++ xs) (vs ++ ys)
behind_kept xs ys vs new more name h = list_any-append (bytes_eq name) vs ys ∙ go (has bytes_eq vs name) (has bytes_eq xs name) (more_kept (bytes_eq name new) xs ys name (more name)) refl (sym (list_any-append (bytes_eq name) vs xs) ∙ h)
  where
    go : (a b : Bool) → (has bytes_eq xs name ≡ true → has bytes_eq ys name ≡ true) → has bytes_eq xs name ≡ b → (a || b) ≡ true → (a || has bytes_eq ys name) ≡ true
    go true b k e f = refl
    go false b k e f = k (e ∙ f)

-- a hint more
pub hint_put : (old new : List (Bytes × ℕ)) (names : List Bytes) (base : Bytes) (number : ℕ) → ((q : Bytes) → lookup (bytes_eq q) new ≡ cond (bytes_eq base q) (Some number) (lookup (bytes_eq q) old))
    → 1 ≤ number → AllTaken names base number → AreHints old names → AreHints new names
hint_put old new names base number put first before h q n at = go (bytes_eq base q) refl (sym (put q) ∙ at)
  where
    go : (b : Bool) → bytes_eq base q ≡ b → cond b (Some number) (lookup (bytes_eq q) old) ≡ Some n → (1 ≤ n) × AllTaken names q n
    go true e s =
        let same : number ≡ n = same_Some number n s in
        (subst (λ m. 1 ≤ m) same first, subst (λ m. AllTaken names q m) same (subst (λ b. AllTaken names b number) (name_exact base q e) before))
    go false e s = h q n s

-- the hint, or 1
pub hint_first : (hints : List (Bytes × ℕ)) (names : List Bytes) (base : Bytes) (number : ℕ) → AreHints hints names → number ≡ unwrap_or (lookup (bytes_eq base) hints) 1 → (1 ≤ number) × AllTaken names base number
hint_first hints names base number h is = go (lookup (bytes_eq base) hints) refl is
  where
    go : (o : Option ℕ) → lookup (bytes_eq base) hints ≡ o → number ≡ unwrap_or o 1 → (1 ≤ number) × AllTaken names base number
    go None e s = (omega (arith, s), λ n first below. absurd (omega (arith, first, below, s)))
    go (Some n) e s = subst (λ m. (1 ≤ m) × AllTaken names base m) (sym s) (h base n e)

-- a name that is added in front of others, or not
pub hints_in_front : {A E : Type 0} (r : Result A E) (hints : List (Bytes × ℕ)) (xs ys vs : List Bytes) (new : Bytes) → OnOk r (HasOneMore xs new ys) → OnErr r (ys ≡ xs) → AreHints hints (xs ++ vs) → AreHints hints (ys ++ vs)
hints_in_front (Ok x) hints xs ys vs new more same h = hints_keep hints (xs ++ vs) (ys ++ vs) (front_kept xs ys vs new more) h
hints_in_front (Err e) hints xs ys vs new more same h = subst (λ zs. AreHints hints (zs ++ vs)) (sym same) h

-- and one behind them
pub hints_behind : {A E : Type 0} (r : Result A E) (hints : List (Bytes × ℕ)) (xs ys vs : List Bytes) (new : Bytes) → OnOk r (HasOneMore xs new ys) → OnErr r (ys ≡ xs) → AreHints hints (vs ++ xs) → AreHints hints (vs ++ ys)
hints_behind (Ok x) hints xs ys vs new more same h = hints_keep hints (vs ++ xs) (vs ++ ys) (behind_kept xs ys vs new more) h
hints_behind (Err e) hints xs ys vs new more same h = subst (λ zs. AreHints hints (vs ++ zs)) (sym same) h
