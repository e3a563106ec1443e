-- Types behind those that a list has.
use Rattle.std.proofs.Common.{◌≡◌, ℕ, ◌+◌, ◌<◌, List, [], ◌∷◌, ◌++◌, map, flat_map, take, length, get_or, slice_get, Option, Some, Ok, Err, sym, ap, ◌∙◌, subst}
use Rattle.std.specs.Prelude.{Result}
use Rattle.std.specs.Result.{OnOk}
use Rattle.std.proofs.lemmas.List.{append-nil, append_assoc, map-append}
use Rattle.std.proofs.lemmas.List.Elements.{All-append, All-cons, All-nil}
use Rattle.std.proofs.lemmas.Grind.{flat_map-append}
use Rattle.std.proofs.lemmas.Option.{slice_get-get_or}
use Rattle.type_table.proofs.Steps.{take_next}
use Rattle.type_table.specs.Tree.{Tree}
use Rattle.type_table.specs.Types.{Types}
use Rattle.instruction_verify.specs.Last.ValuesById.{IsOf, tree_of}
use Rattle.instruction_verify.specs.declared.last.local_type.LocalType.{LocalType}
use Rattle.instruction_verify.specs.Last.Given.{Grows}

module _ (t : Types) where
  -- none
  pub grows_none : (xs : List LocalType) → Grows t xs xs []
  grows_none xs = record { known = λ h. h; told = sym (append-nil (map (tree_of t) xs)) }

  -- one
  pub grows_one : (xs ys : List LocalType) (x : LocalType) (u : Option Tree) → ys ≡ xs ++ x ∷ [] → IsOf t x → tree_of t x ≡ u → Grows t xs ys (u ∷ [])
  grows_one xs ys x u e k is =
      subst (λ (zs : List LocalType). Grows t xs zs (u ∷ [])) (sym e)
      (record {
        known = λ h. All-append (IsOf t) xs (x ∷ []) h (All-cons (IsOf t) x [] k (All-nil (IsOf t)));
        told = map-append (tree_of t) xs (x ∷ []) ∙ ap (λ v. map (tree_of t) xs ++ v ∷ []) is;
      })

  -- some, and others behind them
  pub grows_both : {xs ys zs : List LocalType} {us vs : List (Option Tree)} → Grows t xs ys us → Grows t ys zs vs → Grows t xs zs (us ++ vs)
  grows_both {xs = xs} {us = us} {vs = vs} p q = record {
    known = λ h. q.known (p.known h);
    told = q.told ∙ ap (λ ws. ws ++ vs) p.told ∙ append_assoc (map (tree_of t) xs) us vs;
  }

  -- the same types, told otherwise
  pub grows_told : {xs ys : List LocalType} {us vs : List (Option Tree)} → us ≡ vs → Grows t xs ys us → Grows t xs ys vs
  grows_told {xs = xs} {ys = ys} e g = subst (λ (ws : List (Option Tree)). Grows t xs ys ws) e g

  -- the same list, told otherwise
  pub grows_from : {xs ys zs : List LocalType} {us : List (Option Tree)} → xs ≡ zs → Grows t xs ys us → Grows t zs ys us
  grows_from {ys = ys} {us = us} e g = subst (λ (ws : List LocalType). Grows t ws ys us) e g

  -- the same, where it is so at all
  pub grows_told_ok : {T E : Type 0} (xs ys : List LocalType) (us vs : List (Option Tree)) (r : Result T E) → us ≡ vs → OnOk r (Grows t xs ys us) → OnOk r (Grows t xs ys vs)
  grows_told_ok xs ys us vs (Ok x) e g = grows_told e g
  grows_told_ok xs ys us vs (Err x) e g = tt

-- what one more gives
pub given_next : {X Y : Type 0} (g : X → List Y) (xs : List X) (i : ℕ) (x : X) → i < length xs → x ≡ get_or xs i x → flat_map g (take i xs) ++ g x ≡ flat_map g (take (i + 1) xs)
given_next g xs i x lt is =
    let at : slice_get xs i ≡ Some x = slice_get-get_or xs i x lt ∙ ap Some (sym is) in
    sym (ap (flat_map g) (take_next xs i x at) ∙ flat_map-append g (take i xs) (x ∷ []) ∙ ap (λ ys. flat_map g (take i xs) ++ ys) (append-nil (g x)))
