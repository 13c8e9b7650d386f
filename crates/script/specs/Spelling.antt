-- What spells names and types. Assumes nothing.
use Rattle.std.specs.Prelude.{ℕ, List, take, drop, codes}
use Rattle.script.specs.declared.types.Name.{Name}
use Rattle.script.specs.declared.types.«Type».{«Type» as Ty}
use Rattle.script.specs.declared.types.«Type».TheVariants.{Int, Ref, Q}

-- the bytes that spell a name
abbrev pub spelled : List ℕ → Name → List ℕ
spelled src x = take x.len (drop x.at src)

-- the text of a type
abbrev pub type_text : Ty → List ℕ
type_text Int = codes "int"
type_text Ref = codes "Ref"
type_text Q = codes "Q"
