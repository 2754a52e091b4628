-- `states::State::start` meets its contract. Assumes nothing.
use Rattle.std.specs.Prelude.{◌≡◌, Result, Ok, Err, MatchResult, IsOkAnd}
use Rattle.std.proofs.Common.{rules, subst, sym, ap, ◌∙◌}
use Rattle.meaning.specs.declared.Refusal.{Refusal}
use Rattle.path.specs.declared.Walk.{Walk}
use Rattle.start.specs.Start.{Begun, begun, start_f}
use Rattle.test_lines.specs.Told.{started}
use Rattle.test_lines.specs.declared.memory.Memory.{Memory}
use Rattle.test_lines.specs.declared.states.State.{State}
use Rattle.test_lines.proofs.states.State.start.Goals as goal

began : {K : Walk → State → Type 0} (a : Result Walk Refusal) (m : Result State Refusal) (memory : Memory) (b : Begun) → begun a memory.records.items memory.scopes.items memory.symbols.items ≡ b
    → MatchResult a (λ w. IsOkAnd m (K w)) (λ e. m ≡ Err e) → ((w : Walk) (s : State) → K w s → s ≡ record { memory = memory; walk = w })
    → MatchResult m (λ s. begun (Ok s.walk) s.memory.records.items s.memory.scopes.items s.memory.symbols.items ≡ b) (λ why. Err why ≡ b.answer)
began (Ok w) (Ok s) memory b e h k = subst (λ (z : State). begun (Ok z.walk) z.memory.records.items z.memory.scopes.items z.memory.symbols.items ≡ b) (sym (k w s h)) e
began (Ok w) (Err why) memory b e h k = absurd h
began (Err why) m memory b e h k = subst (λ (z : Result State Refusal). MatchResult z (λ s. begun (Ok s.walk) s.memory.records.items s.memory.scopes.items s.memory.symbols.items ≡ b) (λ y. Err y ≡ b.answer)) (sym h) (ap (λ (x : Begun). x.answer) e)

pub returns : goal.returns
unfolding started
returns c =
    let made = c.in_ok-memory.ensures in
    let tables = c.start.ensures.tables ∙ (λ i. start_f c.args.file.now (made.records i) (made.scopes i) (made.symbols i)) in
    began c.start.result c.map.result c.start.new.self _ tables c.map.ensures.cases (λ w s k. search rules)
