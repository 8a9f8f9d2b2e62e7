-- Results of checked operations.
use Rattle.std.specs.Prelude.{ℕ, ℤ, Option, Some, None, Result, Ok, Err}
use Rattle.lex.specs.declared.token.Scalar.TheVariants.{LongLong}
use Rattle.syntax.specs.declared.thread_end.Trap.{Trap}
use Rattle.syntax.specs.declared.thread_end.Trap.TheVariants.{OutOfRange}
use Rattle.syntax.specs.Numbers.{word_of}

-- the word of a `long long`, or a trap where there is none
abbrev pub word_or_trap : Option ℤ → Result ℕ Trap
word_or_trap None = Err OutOfRange
word_or_trap (Some z) = Ok (word_of LongLong z)
