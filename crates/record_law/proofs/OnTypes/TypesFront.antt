-- The types of a module in front of each: what stands there is what they were written of.
use Rattle.std.proofs.Common.{◌≡◌, List, [], ◌∷◌, ◌++◌, sym, ap, ◌∙◌, subst, append-nil, append_assoc}
use Rattle.std.specs.Prelude.{map, ⊤}
use Rattle.std.specs.List.{AllByRecursion, fold}
use Rattle.type_table.specs.Tree.{Tree}
use Rattle.type_table.specs.Types.{tree_of, grow}
use Rattle.module_arena.specs.Module.{Bytes}
use Rattle.record_table.specs.Spelling.{by_ids}
use Rattle.record_law.proofs.OnTypes.TypesInOrder.{AreThere, parts_in, IsInOrder, no_types, one_more}
use Rattle.record_law.proofs.OnTypes.TypesById.{IsNamedBy, tree_again}

-- each of these has its parts in front of it, behind what is done
abbrev pub StandsOn : List Tree → List Tree → Type 0
StandsOn done [] = ⊤
StandsOn done (t ∷ rest) = AreThere done (parts_in t) × StandsOn (done ++ t ∷ []) rest

-- one more behind them, whose parts stand in front
pub one_behind : (done all : List Tree) (t : Tree) → StandsOn done all → AreThere (done ++ all) (parts_in t) → StandsOn done (all ++ t ∷ [])
one_behind done [] t stands there = (subst (λ xs. AreThere xs (parts_in t)) (append-nil done) there, tt)
one_behind done (s ∷ all) t stands there =
    (stands.0, one_behind (done ++ s ∷ []) all t stands.1 (subst (λ xs. AreThere xs (parts_in t)) (sym (append_assoc done (s ∷ []) all)) there))

pub in_front_of : (all : List Tree) → IsInOrder all → StandsOn [] all
in_front_of all no_types = tt
in_front_of all (one_more before t ordered parts new) = one_behind [] before t (in_front_of before ordered) parts

-- the trees of types that are written by their places in all, behind those that are done
pub grows : (all : List Tree) (names : List Bytes) (rest done more : List Tree) → all ≡ done ++ (rest ++ more) → StandsOn done rest → AllByRecursion (IsNamedBy names) rest
    → fold (grow names) done (map (by_ids all names) rest) ≡ done ++ rest
grows all names [] done more e stands known = sym (append-nil done)
grows all names (t ∷ rest) done more e stands known =
    ap (λ x. fold (grow names) (done ++ x ∷ []) (map (by_ids all names) rest))
    (ap (λ a. tree_of names done (by_ids a names t)) e ∙ tree_again done (t ∷ (rest ++ more)) names t stands.0 known.0)
    ∙ grows all names rest (done ++ t ∷ []) more (e ∙ sym (append_assoc done (t ∷ []) (rest ++ more))) stands.1 known.1
    ∙ append_assoc done (t ∷ []) rest
