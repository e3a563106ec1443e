-- Every value of `Flag` stands in the list of its table, which is looked up by its words and by its codes.
use Rattle.std.proofs.Common.{refl, bytes_eq, nat_eq}
use Rattle.ir_tables.specs.declared.flag.Flag.TheVariants.{Nuw, Nsw, Exact, Disjoint, Nneg, Samesign, Inbounds, Nusw, Volatile}
use Rattle.ir_tables.specs.Flag.{flag_word, flag_code, flags}
use Rattle.ir_tables.proofs.Tables.{IsListed, IsKeyed, keyed_by_word, keyed_by_code}

pub flag_listed : IsListed flags
flag_listed Nuw = (0, refl)
flag_listed Nsw = (1, refl)
flag_listed Exact = (2, refl)
flag_listed Disjoint = (3, refl)
flag_listed Nneg = (4, refl)
flag_listed Samesign = (5, refl)
flag_listed Inbounds = (6, refl)
flag_listed Nusw = (7, refl)
flag_listed Volatile = (8, refl)

pub flag_words : IsKeyed bytes_eq flag_word flags
flag_words = keyed_by_word flag_word flags flag_listed

pub flag_codes : IsKeyed nat_eq flag_code flags
flag_codes = keyed_by_code flag_code flags flag_listed
