-- Whether a function type that was met has the shape of one as it is written.
use Rattle.std.proofs.Common.{◌≡◌, ℕ, ◌<◌, ◌↔◌, All, Bool, ◌&&◌, List, length, map, Some, sym, ap, ◌∙◌, subst}
use Rattle.std.specs.Prelude.{IsTrue, slice_get}
use Rattle.std.specs.Bool.{beq}
use Rattle.std.proofs.lemmas.Bool.{and_from, and_parts}
use Rattle.std.proofs.lemmas.Option.{get_or_from_slice_get, same_Some, slice_get_within}
use Rattle.module_arena.specs.Lists.{Lists}
use Rattle.type_table.specs.Limits.{IsWithin}
use Rattle.type_table.specs.Types.{Types, shape, IsGood}
use Rattle.module_arena.proofs.SameValues.{beq_is}
use Rattle.run_rules.specs.Action.{Signature}
use Rattle.run_decode.specs.Flat.Spans.{spanned}
use Rattle.run_names.specs.Shapes.Shapes.{shape_in}
use Rattle.run_decode.specs.declared.signatures.written.WrittenSignature.{WrittenSignature}
use Rattle.run_decode.specs.Signatures.Met.{AreMet, IsWritten, Met, known, shaped, type_in, written_as}
use Rattle.run_decode.proofs.OnSignatures.Kept.{lists_are, seen_as}
use Rattle.run_decode.proofs.OnSignatures.Same.{shape_from, shape_to, truth_from}

module _ (m : Met) (a : Lists) (ps : List ℕ) (ws : List WrittenSignature) (is : record { lists = a; types = map (type_in ps) ws } ≡ m) (met : AreMet a ps ws) (n : ℕ) (w : WrittenSignature) (there : slice_get ws n ≡ Some w) where
  -- its ids are of the arena
  pub written_here : IsWritten a ps w
  written_here = subst (IsWritten a ps) (get_or_from_slice_get ws n w w there) (met.written n w (slice_get_within ws n w there))

  pub known_there : (t : Types) → t ≡ a.table → w.returns < length t.types
  known_there t same = subst (λ (x : Types). w.returns < length x.types) (sym same) written_here.returns

  pub all_known : (t : Types) → t ≡ a.table → (xs : List ℕ) → xs ≡ spanned ps w.parameters → All (λ (ty : ℕ). ty < length t.types) xs
  all_known t same xs these =
      subst (λ (x : Types). All (λ (ty : ℕ). ty < length x.types) xs) (sym same)
      (subst (All (λ (ty : ℕ). ty < length a.table.types)) (sym these) written_here.known_types)

  module _ (returns : ℕ) (parameters : List ℕ) (variadic : Bool) where
    -- the one as it is written
    abbrev given : Signature
    given = written_as m.lists returns parameters variadic

    given_is : written_as a returns parameters variadic ≡ given
    given_is = ap (λ (x : Lists). written_as x returns parameters variadic) (lists_are m a ps ws is met)

    -- types tell, and whether both are variadic
    pub told_all : (t : Types) → t ≡ a.table → IsGood t → IsWithin t → returns < length m.lists.table.types → (xs : List ℕ) → xs ≡ spanned ps w.parameters
        → (b d : Bool) → IsTrue b ↔ (shape t w.returns ≡ shape t returns) → IsTrue d ↔ (map (shape_in t) xs ≡ map (shape_in t) parameters)
        → IsTrue ((b && d) && beq w.variadic variadic) ↔ (slice_get (known m) n ≡ Some given)
    told_all t same good within known_returns xs these b d h k = (forth, back)
      where
        there_seen : slice_get (known m) n ≡ Some (shaped a (type_in ps w))
        there_seen = seen_as m a ps ws is met n w there

        forth : IsTrue ((b && d) && beq w.variadic variadic) → slice_get (known m) n ≡ Some given
        forth e =
            let both = and_parts (b && d) (beq w.variadic variadic) e in
            let types = and_parts b d both.0 in
            let returns_same : shape_in a.table w.returns ≡ shape_in a.table returns = sym (ap (λ (x : Types). shape_in x w.returns) same) ∙ shape_to t w.returns returns (h.0 types.0) ∙ ap (λ (x : Types). shape_in x returns) same in
            let parameters_same : map (shape_in a.table) (spanned ps w.parameters) ≡ map (shape_in a.table) parameters = sym (λ j. map (shape_in (same j)) (these j)) ∙ k.0 types.1 ∙ ap (λ (x : Types). map (shape_in x) parameters) same in
            let variadic_same : w.variadic ≡ variadic = beq_is w.variadic variadic both.1 in
            let alike : shaped a (type_in ps w) ≡ written_as a returns parameters variadic = λ i. record { returns = returns_same i; parameters = parameters_same i; variadic = variadic_same i } in
            there_seen ∙ ap Some (alike ∙ given_is)

        back : slice_get (known m) n ≡ Some given → IsTrue ((b && d) && beq w.variadic variadic)
        back e =
            let alike : shaped a (type_in ps w) ≡ written_as a returns parameters variadic = same_Some (shaped a (type_in ps w)) given (sym there_seen ∙ e) ∙ sym given_is in
            let returns_same : shape_in t w.returns ≡ shape_in t returns = ap (λ (x : Types). shape_in x w.returns) same ∙ ap (λ (s : Signature). s.returns) alike ∙ sym (ap (λ (x : Types). shape_in x returns) same) in
            let parameters_same : map (shape_in t) xs ≡ map (shape_in t) parameters = (λ j. map (shape_in (same j)) (these j)) ∙ ap (λ (s : Signature). s.parameters) alike ∙ sym (ap (λ (x : Types). map (shape_in x) parameters) same) in
            and_from (b && d) (beq w.variadic variadic)
            (and_from b d
            (h.1 (shape_from t good within w.returns returns (known_there t same) (subst (λ (x : Types). returns < length x.types) (sym (same ∙ ap (λ (x : Lists). x.table) (lists_are m a ps ws is met))) known_returns) returns_same))
            (k.1 parameters_same))
            (truth_from w.variadic variadic (ap (λ (s : Signature). s.variadic) alike))
