-- Every value of `UndefinedKind` stands in the list of its table, which is looked up by its words and by its codes.
use Rattle.std.proofs.Common.{refl, bytes_eq, nat_eq}
use Rattle.ir_tables.specs.declared.undefined_kind.UndefinedKind.TheVariants.{DivisionByZero, DivisionOverflow, BranchOnPoison, PoisonAddress, OutsideBlock, EndedBlock, Misaligned, WriteToConstant, BadFree, Overlap, NoFunction, AnotherFunctionType, PoisonArgument, Unreachable, BadFormat}
use Rattle.ir_tables.specs.UndefinedKind.{undefined_word, undefined_code, undefined_kinds}
use Rattle.ir_tables.proofs.Tables.{IsListed, IsKeyed, keyed_by_word, keyed_by_code}

pub undefined_listed : IsListed undefined_kinds
undefined_listed DivisionByZero = (0, refl)
undefined_listed DivisionOverflow = (1, refl)
undefined_listed BranchOnPoison = (2, refl)
undefined_listed PoisonAddress = (3, refl)
undefined_listed OutsideBlock = (4, refl)
undefined_listed EndedBlock = (5, refl)
undefined_listed Misaligned = (6, refl)
undefined_listed WriteToConstant = (7, refl)
undefined_listed BadFree = (8, refl)
undefined_listed Overlap = (9, refl)
undefined_listed NoFunction = (10, refl)
undefined_listed AnotherFunctionType = (11, refl)
undefined_listed PoisonArgument = (12, refl)
undefined_listed Unreachable = (13, refl)
undefined_listed BadFormat = (14, refl)

pub undefined_words : IsKeyed bytes_eq undefined_word undefined_kinds
undefined_words = keyed_by_word undefined_word undefined_kinds undefined_listed

pub undefined_codes : IsKeyed nat_eq undefined_code undefined_kinds
undefined_codes = keyed_by_code undefined_code undefined_kinds undefined_listed
