-- Constructors element by element.
use Rattle.std.proofs.Common.{◌≡◌, ℕ, ◌+◌, ◌<◌, List, [], ◌∷◌, ◌++◌, map, take, length, get_or, Option, Some, None, refl, sym, ap, ◌∙◌, append-nil}
use Rattle.std.specs.Prelude.{filter_map}
use Rattle.std.specs.List.{cons_option}
use Rattle.std.proofs.lemmas.List.{map-append, take_more}
use Rattle.std.proofs.lemmas.List.Elements.{filter_map-append}
use Rattle.module_arena.specs.declared.constant.TypedConst.{TypedConst}
use Rattle.module_arena.specs.Lists.{Lists}
use Rattle.module_arena.specs.View.{module_of}
use Rattle.linkage_rules.specs.Contents.Contents.{ContentPiece}
use Rattle.run_names.specs.Told.{alone}
use Rattle.run_rules.specs.Constant.{constant_value}
use Rattle.run_rules.specs.Look.{names_in}
use Rattle.run_rules.specs.Plan as plans
use Rattle.run_rules.specs.Plan.{constructor_of, constructors, in_order}
use Rattle.ir_run.specs.Constructors.{AreElements, constructor_at, constructor_seen, piece_of}
use Rattle.ir_run.specs.declared.order.Constructor.{Constructor}

module _ (a : Lists) (elements : List TypedConst) (k : ℕ) (x : TypedConst) (found : List Constructor) (lt : k < length elements) (is : x ≡ get_or elements k x) (before : map constructor_seen found ≡ filter_map (constructor_at a) (take k elements)) where
  next : filter_map (constructor_at a) (take (k + 1) elements) ≡ filter_map (constructor_at a) (take k elements) ++ cons_option (constructor_at a x) []
  next =
      ap (filter_map (constructor_at a)) (take_more elements k x lt ∙ ap (λ (c : TypedConst). take k elements ++ c ∷ []) (sym is))
      ∙ filter_map-append (constructor_at a) (take k elements) (x ∷ [])

  pub one_found : (c : Constructor) → Some (constructor_seen c) ≡ constructor_at a x → map constructor_seen (found ++ c ∷ []) ≡ filter_map (constructor_at a) (take (k + 1) elements)
  one_found c told =
      map-append constructor_seen found (c ∷ []) ∙ ap (λ l. l ++ constructor_seen c ∷ []) before
      ∙ ap (λ (o : Option plans.Constructor). filter_map (constructor_at a) (take k elements) ++ cons_option o []) told ∙ sym next

  pub none_found : None ≡ constructor_at a x → map constructor_seen found ≡ filter_map (constructor_at a) (take (k + 1) elements)
  none_found told =
      before ∙ sym (append-nil (filter_map (constructor_at a) (take k elements)))
      ∙ ap (λ (o : Option plans.Constructor). filter_map (constructor_at a) (take k elements) ++ cons_option o []) told ∙ sym next

-- ---- all of them

-- the constructor that a piece is
abbrev piece_seen : Lists → ContentPiece → Option plans.Constructor
piece_seen a p = constructor_of (constant_value (names_in (alone (module_of a)) p.part) p.ty p.value)

pieces_same : (a : Lists) (es : List TypedConst) → filter_map (constructor_at a) es ≡ filter_map (piece_seen a) (map (piece_of a) es)
pieces_same a [] = refl
pieces_same a (c ∷ cs) = ap (λ l. cons_option (constructor_at a c) l) (pieces_same a cs)

pub all_constructors : (a : Lists) (es : List TypedConst) → AreElements a (Some es) → in_order (filter_map (constructor_at a) es) ≡ constructors (alone (module_of a))
all_constructors a es h = ap in_order (pieces_same a es ∙ ap (filter_map (piece_seen a)) h.0)

pub no_constructors : (a : Lists) → AreElements a None → [] ≡ constructors (alone (module_of a))
no_constructors a none = sym (ap (λ (l : List ContentPiece). in_order (filter_map (piece_seen a) l)) none)
