-- Ranks: what is no single operand or condition has one above 0, and what is read at one is read at an equal one. Assumes nothing.
use Rattle.std.proofs.Common.{◌≡◌, ℕ, ◌<◌, false, Some, subst, lit<}
use Rattle.reader.specs.declared.binding.Binding.{Binding}
use Rattle.reader.specs.declared.binding.Binding.TheVariants.{Product, Sum, Dot}
use Rattle.reader.specs.declared.binding.Join.{Join}
use Rattle.reader.specs.declared.binding.Join.TheVariants.{And, Or}
use Rattle.reader.specs.declared.refusal.ReadRefusal.{ReadRefusal}
use Rattle.reader.specs.declared.cursor.Cursor.{Cursor}
use Rattle.reader.specs.declared.code.Code.{Code}
use Rattle.reader.specs.declared.code.Thing.{Thing}
use Rattle.reader.specs.Binding.{rank, join_rank}
use Rattle.reader.specs.Terms.{Stops, Gave, levels, flat_got, got_is}

pub some_rank : (b : Binding) → 0 < rank (Some b)
some_rank Product = lit< tt
some_rank Sum = lit< tt
some_rank Dot = lit< tt

pub some_join : (j : Join) → 0 < join_rank (Some j)
some_join And = lit< tt
some_join Or = lit< tt

pub stops_at : (d : ℕ) {m n : ℕ} {c : Cursor} {r : ReadRefusal} → m ≡ n → Stops (λ g. levels false m g d) c r → Stops (λ g. levels false n g d) c r
stops_at d {m} {n} {c} {r} e k = subst (λ n. Stops (λ g. levels false n g d) c r) e k

pub gave_at : (d : ℕ) {m n : ℕ} {c e : Cursor} {o p : Code} {y : Thing} → m ≡ n → Gave 0 (λ g. levels false m g d) (flat_got false) (got_is false) c e o p y → Gave 0 (λ g. levels false n g d) (flat_got false) (got_is false) c e o p y
gave_at d {m} {n} {c} {e} {o} {p} {y} same k = subst (λ n. Gave 0 (λ g. levels false n g d) (flat_got false) (got_is false) c e o p y) same k
