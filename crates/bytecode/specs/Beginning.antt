-- Where the threads of a code begin.
use Rattle.std.specs.Prelude.{bytes_eq, codes, ℕ, ◌-◌, List, [], ◌∷◌, replicate, Option, Some, None, if◌then◌else◌}
use Rattle.bytecode.specs.Code.{FunctionCode, Code, Configuration}

-- the code of the function with worker's name
abbrev pub worker_among : List FunctionCode → Option FunctionCode
worker_among [] = None
worker_among (f ∷ fs) = if bytes_eq f.name (codes "worker") then Some f else worker_among fs

abbrev pub beginning_in : Option FunctionCode → ℕ → Configuration
beginning_in None t = record { place = 0; registers = []; frames = [] }
beginning_in (Some f) t =
    record { place = f.first; registers = t ∷ replicate (f.registers - f.parameters) 0; frames = [] }

-- thread t begins as worker(t)
abbrev pub beginning : Code → ℕ → Configuration
beginning code t = beginning_in (worker_among code.functions) t
