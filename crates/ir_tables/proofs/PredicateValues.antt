-- Every value of `Predicate` stands in the list of its table, which is looked up by its words and by its codes.
use Rattle.std.proofs.Common.{refl, bytes_eq, nat_eq}
use Rattle.ir_tables.specs.declared.predicate.Predicate.TheVariants.{Eq, Ne, Ugt, Uge, Ult, Ule, Sgt, Sge, Slt, Sle}
use Rattle.ir_tables.specs.Predicate.{predicate_word, predicate_code, predicates}
use Rattle.ir_tables.proofs.Tables.{IsListed, IsKeyed, keyed_by_word, keyed_by_code}

pub predicate_listed : IsListed predicates
predicate_listed Eq = (0, refl)
predicate_listed Ne = (1, refl)
predicate_listed Ugt = (2, refl)
predicate_listed Uge = (3, refl)
predicate_listed Ult = (4, refl)
predicate_listed Ule = (5, refl)
predicate_listed Sgt = (6, refl)
predicate_listed Sge = (7, refl)
predicate_listed Slt = (8, refl)
predicate_listed Sle = (9, refl)

pub predicate_words : IsKeyed bytes_eq predicate_word predicates
predicate_words = keyed_by_word predicate_word predicates predicate_listed

pub predicate_codes : IsKeyed nat_eq predicate_code predicates
predicate_codes = keyed_by_code predicate_code predicates predicate_listed
