-- The listing of a code: its text, byte by byte.
use Rattle.std.specs.Prelude.{ℕ, suc, ◌-◌, ◌==◌, List, [], ◌∷◌, ◌++◌, take, drop, codes, decimal, flat_map, Option}
use Rattle.std.specs.Prelude.{Some, None, slice_get, unwrap_or}
use Rattle.std.specs.Map.{lookup}
use Rattle.lex.specs.declared.token.Scalar.{Scalar}
use Rattle.lex.specs.declared.token.Scalar.TheVariants.{Int, Unsigned, LongLong}
use Rattle.syntax.specs.declared.tree.BinaryOp.{BinaryOp}
use Rattle.syntax.specs.declared.tree.BinaryOp.TheVariants.{Or, Xor, And, Equal, NotEqual, Less, Greater, LessEqual}
use Rattle.syntax.specs.declared.tree.BinaryOp.TheVariants.{GreaterEqual, ShiftLeft, ShiftRight, Add, Subtract}
use Rattle.syntax.specs.declared.tree.BinaryOp.TheVariants.{Multiply, Divide, Remainder}
use Rattle.bytecode.specs.Code.{Instr, FunctionCode, Code}
use Rattle.bytecode.specs.Valid.{end_before}

-- operands, each after a space
abbrev pub r_text : ℕ → List ℕ
r_text r = codes " r" ++ decimal r

abbrev pub p_text : ℕ → List ℕ
p_text p = codes " >" ++ decimal p

abbrev pub c_text : ℕ → List ℕ
c_text c = codes " @" ++ decimal c

abbrev pub k_text : ℕ → List ℕ
k_text k = codes " #" ++ decimal k

abbrev pub typed_word : List ℕ → Scalar → List ℕ
typed_word w Int = w ++ codes ".s"
typed_word w Unsigned = w ++ codes ".u"
typed_word w LongLong = w ++ codes ".l"

abbrev pub not_word : Scalar → List ℕ
not_word Int = codes "not"
not_word Unsigned = codes "not"
not_word LongLong = codes "not.l"

abbrev pub op_text : BinaryOp → Scalar → List ℕ
op_text Add t = typed_word (codes "add") t
op_text Subtract t = typed_word (codes "sub") t
op_text Multiply t = typed_word (codes "mul") t
op_text Divide t = typed_word (codes "div") t
op_text Remainder t = typed_word (codes "rem") t
op_text ShiftLeft t = typed_word (codes "shl") t
op_text ShiftRight t = typed_word (codes "shr") t
op_text And t = codes "and"
op_text Or t = codes "or"
op_text Xor t = codes "xor"
op_text Equal t = codes "eq"
op_text NotEqual t = codes "ne"
op_text Less t = typed_word (codes "lt") t
op_text LessEqual t = typed_word (codes "le") t
op_text Greater t = []
op_text GreaterEqual t = []

abbrev pub name_text : Option FunctionCode → List ℕ
name_text None = []
name_text (Some f) = f.name

-- an instruction, among these functions
abbrev pub instr_text : List FunctionCode → Instr → List ℕ
instr_text fs (Instr.Constant d n) = codes "const" ++ r_text d ++ k_text n
instr_text fs (Instr.Move d a) = codes "move" ++ r_text d ++ r_text a
instr_text fs (Instr.Compute op t d a b) = op_text op t ++ r_text d ++ r_text a ++ r_text b
instr_text fs (Instr.Negate t d a) = typed_word (codes "neg") t ++ r_text d ++ r_text a
instr_text fs (Instr.Complement t d a) = not_word t ++ r_text d ++ r_text a
instr_text fs (Instr.Extend d a) = codes "ext" ++ r_text d ++ r_text a
instr_text fs (Instr.Low d a) = codes "low" ++ r_text d ++ r_text a
instr_text fs (Instr.Jump to) = codes "jump" ++ p_text to
instr_text fs (Instr.JumpZero a to) = codes "jz" ++ r_text a ++ p_text to
instr_text fs (Instr.JumpNonzero a to) = codes "jnz" ++ r_text a ++ p_text to
instr_text fs (Instr.Check i n) = codes "check" ++ r_text i ++ k_text n
instr_text fs (Instr.Read d c) = codes "rd" ++ r_text d ++ c_text c
instr_text fs (Instr.ReadAt d c n i) = codes "rdx" ++ r_text d ++ c_text c ++ k_text n ++ r_text i
instr_text fs (Instr.Write c a) = codes "wr" ++ c_text c ++ r_text a
instr_text fs (Instr.WriteAt c n i a) = codes "wrx" ++ c_text c ++ k_text n ++ r_text i ++ r_text a
instr_text fs (Instr.Begin to) = codes "begin" ++ p_text to
instr_text fs Instr.Commit = codes "commit"
instr_text fs Instr.Cancel = codes "cancel"
instr_text fs (Instr.CancelOuter n) = codes "cancelx" ++ k_text n
instr_text fs Instr.Irrevocable = codes "irrevocable"
instr_text fs (Instr.Call f d args) = codes "call " ++ name_text (slice_get fs f) ++ r_text d ++ flat_map r_text args
instr_text fs (Instr.Return None) = codes "ret"
instr_text fs (Instr.Return (Some a)) = codes "ret" ++ r_text a
instr_text fs (Instr.PrintText k) = codes "print.t" ++ k_text k
instr_text fs (Instr.PrintNumber t a) = typed_word (codes "print") t ++ r_text a

-- an instruction, if there is one
abbrev pub if_instr_text : List FunctionCode → Option Instr → List ℕ
if_instr_text fs None = []
if_instr_text fs (Some i) = instr_text fs i

-- the instruction at a place of a code
abbrev pub text_at : Code → ℕ → List ℕ
text_at code q = if_instr_text code.functions (slice_get code.instructions q)

-- instructions from a place on, one line each
abbrev pub lines_from : List FunctionCode → ℕ → List Instr → List ℕ
lines_from fs q [] = []
lines_from fs q (i ∷ is) = decimal q ++ 32 ∷ instr_text fs i ++ 10 ∷ lines_from fs (suc q) is

-- the lines of n instructions from a place on
abbrev pub cut_text : Code → ℕ → ℕ → List ℕ
cut_text code first n = lines_from code.functions first (take n (drop first code.instructions))

-- functions in file order: a line that names one, and its instructions
abbrev pub functions_text : Code → List FunctionCode → List ℕ
functions_text code [] = []
functions_text code (f ∷ rest) =
    codes "function " ++ f.name ++ codes " registers " ++ decimal f.registers ++ 10 ∷
    cut_text code f.first (end_before code rest - f.first) ++
    functions_text code rest

-- the bytes of a text that are escaped, and how
abbrev pub escapes : List (ℕ × List ℕ)
escapes = (10, codes "\\n") ∷ (9, codes "\\t") ∷ (92, codes "\\\\") ∷ (34, codes "\\\"") ∷ []

abbrev pub listing_escape : ℕ → List ℕ
listing_escape c = unwrap_or (lookup (λ k. c == k) escapes) (c ∷ [])

-- texts by their numbers, from one on
abbrev pub texts_text : ℕ → List (List ℕ) → List ℕ
texts_text k [] = []
texts_text k (t ∷ ts) =
    codes "text " ++ decimal k ++ codes " \"" ++ flat_map listing_escape t ++ codes "\"\n" ++ texts_text (suc k) ts

abbrev pub listing : Code → List ℕ
listing code = functions_text code code.functions ++ texts_text 0 code.texts
