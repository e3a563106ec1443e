-- Tests of all or any of a list, and names of which no two are the same.
use Rattle.std.proofs.Common.{◌≡◌, Bool, true, false, List, [], ◌∷◌, ◌++◌, sym, ◌∙◌}
use Rattle.std.specs.Prelude.{bytes_eq}
use Rattle.std.specs.List.{list_all, list_any}
use Rattle.std.proofs.lemmas.Bool.{and_parts, and_from, or_parts, false_from_ne_true, false≢true}
use Rattle.std.proofs.lemmas.Slice.Eq.{bytes_eq-Decides}
use Rattle.module_arena.specs.Module.{Bytes}

module _ {A : Type 0} (p : A → Bool) where
  -- two lists that pass do so as one
  pub all_both : (xs ys : List A) → list_all p xs ≡ true → list_all p ys ≡ true → list_all p (xs ++ ys) ≡ true
  all_both [] ys h k = k
  all_both (x ∷ xs) ys h k = let q = and_parts (p x) (list_all p xs) h in and_from (p x) (list_all p (xs ++ ys)) q.0 (all_both xs ys q.1 k)

pub other_way : (t s : Bytes) → bytes_eq t s ≡ false → bytes_eq s t ≡ false
other_way t s differs = false_from_ne_true (bytes_eq s t) (λ is. false≢true (sym differs ∙ (bytes_eq-Decides t s).1 (sym ((bytes_eq-Decides s t).0 is))))

-- a name that is none of many is not one of them
pub not_later : (t s : Bytes) (front back : List Bytes) → list_any (bytes_eq t) (front ++ s ∷ back) ≡ false → bytes_eq t s ≡ false
not_later t s [] back h = (or_parts (bytes_eq t s) (list_any (bytes_eq t) back) h).0
not_later t s (u ∷ front) back h = not_later t s front back (or_parts (bytes_eq t u) (list_any (bytes_eq t) (front ++ s ∷ back)) h).1
