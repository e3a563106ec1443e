-- Calls keep their numbers when pools and function types grow.
use Rattle.std.proofs.Common.{◌≡◌, ℕ, ◌<◌, All, List, ◌∷◌, ◌++◌, Some, length, get_or, map, sym, ap, ◌∙◌, subst}
use Rattle.std.specs.Prelude.{slice_get}
use Rattle.std.proofs.lemmas.List.{map-append}
use Rattle.module_arena.specs.Lists.{Lists}
use Rattle.run_rules.specs.Action.{Signature}
use Rattle.run_decode.specs.declared.flat.action.CallParts.{CallParts}
use Rattle.run_decode.specs.declared.flat.pools.Pools.{Pools}
use Rattle.run_decode.specs.Flat.Flat.{signature_of}
use Rattle.run_decode.specs.Flat.Grown.{Adds, Grows}
use Rattle.run_decode.proofs.OnFlat.Growth.{got_same, longer_none, longer_then, signature_same, span_stays, spanned_same}
use Rattle.run_decode.specs.Signatures.Met.{Met, known, shaped}
use Rattle.run_decode.specs.Signatures.Numbers.{AreNumbered, IsNumbered, Numbers, types_of}

pub numbers_none : (m : Met) → Numbers m m
numbers_none m = record { lists = λ i. m.lists; kept = longer_none m.types }

pub numbers_then : (l m n : Met) → Numbers l m → Numbers m n → Numbers l n
numbers_then l m n h k = record { lists = k.lists ∙ h.lists; kept = longer_then l.types m.types n.types h.kept k.kept }

-- a number stays that of its function type
pub numbered_still : (m n : Met) → Numbers m n → (k : ℕ) (s : Signature) → slice_get (known m) k ≡ Some s → slice_get (known n) k ≡ Some s
numbered_still m n h k s at =
    got_same (known m) (known n) k s (
      map (shaped m.lists) h.kept.0,
      (λ i. map (shaped (h.lists i)) (h.kept.1 i)) ∙ map-append (shaped m.lists) m.types h.kept.0,
    ) at

-- the types of a call
types_same : (p q : Pools) (c : CallParts) → Grows p q → (m : Met) (a : Lists) → IsNumbered m a p c → types_of q c ≡ types_of p c
types_same p q c g m a k = λ i.
    c.returns ∷ spanned_same p.types q.types c.parameters g.types k.parameters i ++ spanned_same p.types q.types c.shapes g.types k.shapes i

-- one call
pub call_numbered : (m n : Met) (a : Lists) (p q : Pools) (c : CallParts) → Numbers m n → Grows p q → IsNumbered m a p c → IsNumbered n a q c
call_numbered m n a p q c h g k = record {
  parameters = span_stays p.types q.types c.parameters g.types k.parameters;
  shapes = span_stays p.types q.types c.shapes g.types k.shapes;
  known_types = subst (All (λ (ty : ℕ). ty < length a.table.types)) (sym (types_same p q c g m a k)) k.known_types;
  number = numbered_still m n h c.signature (signature_of p a c) k.number ∙ ap Some (sym (signature_same p q g a c k.parameters));
}

-- all of them, where none is new
pub calls_numbered : (m n : Met) (a : Lists) (p q : Pools) → Numbers m n → Adds p q → AreNumbered m a p → AreNumbered n a q
calls_numbered m n a p q h g k =
    subst (λ (cs : List CallParts). All (IsNumbered n a q) cs) (sym g.calls) (λ i d lt. call_numbered m n a p q (get_or p.calls i d) h g.grows (k i d lt))
