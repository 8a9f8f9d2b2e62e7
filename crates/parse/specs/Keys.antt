-- The number by which tables of a program's names are keyed.
use Rattle.std.specs.Prelude.{ℕ, List, [], fold, flat_map}
use Rattle.std.specs.Hash as fed
use Rattle.std.specs.Hash.DefaultHasher as sip
use Rattle.lex.specs.Tokens.{Tok, Terminal, name, constant, string_literal, fixed, reserved}

-- what a token adds to the hash: a name adds its bytes and their end, any other token nothing
abbrev pub hash_writes_of : Terminal → fed.HashWrites
hash_writes_of (name text) = fed.str text
hash_writes_of (constant _ _) = []
hash_writes_of (string_literal _) = []
hash_writes_of (fixed _) = []
hash_writes_of reserved = []

-- the SipHash of all names among the tokens, in order
abbrev pub key_of : List Tok → ℕ
key_of ts = sip.finish (fold sip.write sip.initial (flat_map (λ t. hash_writes_of t.terminal) ts))
