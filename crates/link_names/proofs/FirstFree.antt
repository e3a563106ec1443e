-- The least number that is free, however the names that are taken are kept.
use Rattle.std.proofs.Common.{◌≡◌, ◌⊎◌, inl, inr, ℕ, zero, suc, ◌+◌, ◌<◌, ◌≤◌, Bool, true, false, cond, List, length, refl, sym, ap, ◌∙◌, bytes_eq, arith}
use Rattle.std.proofs.lemmas.Bool.{both_ways, cases_lt, cases_order, false_from_ne_true}
use Rattle.module_arena.specs.Module.{Bytes}
use Rattle.linkage_rules.specs.Lists.{has}
use Rattle.link_rules.specs.Rename.{dotted, least, fresh}
use Rattle.link_rules.proofs.Names.{fresh_free}
use Rattle.link_names.specs.Naming.{SameNames, AllTaken}

pub first_or_later : (a b : ℕ) → a ≤ b → (b ≡ a) ⊎ (suc a ≤ b)
first_or_later a b h = elim (cases_lt a b) [ inl below ↦ inr below | inr above ↦ inl (omega (arith, h, above)) ]

earlier_or_here : (a b : ℕ) → a < b + 1 → (a < b) ⊎ (a ≡ b)
earlier_or_here a b h = elim (cases_lt a b) [ inl below ↦ inl below | inr above ↦ inr (omega (arith, h, above)) ]

module _ (names : List Bytes) (base : Bytes) where
  -- the least number is none before the first
  least_above : (room n : ℕ) → n ≤ least room names base n
  least_above zero n = omega arith
  least_above (suc room) n = go (has bytes_eq names (dotted base n)) (least_above room (suc n))
    where
      go : (b : Bool) → suc n ≤ least room names base (suc n) → n ≤ cond b (least room names base (suc n)) n
      go true h = omega (arith, h)
      go false h = omega arith

  -- it is at most so far away
  least_within : (room n : ℕ) → least room names base n ≤ n + room
  least_within zero n = omega arith
  least_within (suc room) n = go (has bytes_eq names (dotted base n)) (least_within room (suc n))
    where
      go : (b : Bool) → least room names base (suc n) ≤ suc n + room → cond b (least room names base (suc n)) n ≤ n + suc room
      go true h = omega (arith, h)
      go false h = omega arith

  -- all before it are taken
  least_taken : (room first n : ℕ) → first ≤ n → n < least room names base first → has bytes_eq names (dotted base n) ≡ true
  least_taken zero first n le lt = absurd (omega (arith, le, lt))
  least_taken (suc room) first n le lt = go (has bytes_eq names (dotted base first)) refl lt (least_taken room (suc first) n)
    where
      go : (b : Bool) → has bytes_eq names (dotted base first) ≡ b → n < cond b (least room names base (suc first)) first
          → (suc first ≤ n → n < least room names base (suc first) → has bytes_eq names (dotted base n) ≡ true) → has bytes_eq names (dotted base n) ≡ true
      go false e below more = absurd (omega (arith, le, below))
      go true e below more = elim (first_or_later first n le) [
        | inl here ↦ ap (λ k. has bytes_eq names (dotted base k)) here ∙ e
        | inr later ↦ more later below
      ]

  -- the first number that is free is the least
  pub first_free_is : (n : ℕ) → 1 ≤ n → AllTaken names base n → has bytes_eq names (dotted base n) ≡ false → fresh names base ≡ dotted base n
  first_free_is n first before free = ap (dotted base) (same (cases_order (least (length names) names base 1) n))
    where
      from : 1 ≤ least (length names) names base 1
      from = least_above (length names) 1

      same : (least (length names) names base 1 ≡ n) ⊎ ((least (length names) names base 1 < n) ⊎ (n < least (length names) names base 1)) → least (length names) names base 1 ≡ n
      same (inl is) = is
      same (inr (inl less)) = absurd (both_ways _ (fresh_free names base) (before (least (length names) names base 1) from less))
      same (inr (inr more)) = absurd (both_ways _ free (least_taken (length names) 1 n first more))

  -- not all of the first numbers are taken: there are more of them than names
  pub not_all_taken : (past : ℕ) → length names + 2 ≤ past → AllTaken names base past → ⊥
  not_all_taken past far all =
      let least_is_near : least (length names) names base 1 < past = omega (arith, far, least_within (length names) 1) in
      both_ways _ (fresh_free names base) (all (least (length names) names base 1) (least_above (length names) 1) least_is_near)

  -- one number more is taken
  pub taken_more : (number : ℕ) → AllTaken names base number → has bytes_eq names (dotted base number) ≡ true → AllTaken names base (number + 1)
  taken_more number before here n first below = elim (earlier_or_here n number below) [
    | inl earlier ↦ before n first earlier
    | inr same ↦ ap (λ k. has bytes_eq names (dotted base k)) same ∙ here
  ]

  -- fewer numbers are taken
  pub taken_fewer : (last number : ℕ) → last ≤ number → AllTaken names base number → AllTaken names base last
  taken_fewer last number few before n first below = before n first (omega (arith, few, below))

  -- the last of one number more than there are names is free where all before it are taken
  pub last_free : (last number : ℕ) → last ≡ length names + 1 → last ≤ number → AllTaken names base number → has bytes_eq names (dotted base last) ≡ false
  last_free last number is few before =
      false_from_ne_true _ (λ e. not_all_taken (last + 1) (omega (arith, is)) (taken_more last (taken_fewer last number few before) e))

-- equal names give one fresh name, in whatever order they stand and however often
pub fresh_same : (xs ys : List Bytes) (base : Bytes) → SameNames xs ys → fresh xs base ≡ fresh ys base
fresh_same xs ys base same =
    sym (first_free_is ys base (least (length xs) xs base 1) (least_above xs base (length xs) 1)
    (λ n first below. sym (same (dotted base n)) ∙ least_taken xs base (length xs) 1 n first below)
    (sym (same (fresh xs base)) ∙ fresh_free xs base))
