-- The table that a Seal closes, in the history up to it and in the whole history.
use Rattle.std.proofs.Common.{◌≡◌, ℕ, ◌+◌, ◌<◌, List, [], ◌∷◌, ◌++◌, true, refl, ap, sym, ◌∙◌, arith}
use Rattle.std.proofs.lemmas.List.{append-nil, append_assoc}
use Rattle.cqf_model.specs.declared.history.Reply.TheVariants.{Sealed}
use Rattle.cqf_model.specs.Domain.{Domain}
use Rattle.cqf_model.specs.History.{Act, Admits, Recorded, Seals, Withdraws, held_in, is_seal, next_number, seals, table_at}
use Rattle.cqf_laws_history.specs.StateLaws.{SealClosesTable, SealsAreCounted}
use Rattle.cqf_laws_history.specs.TableLaws.{ClosedTablesStay}

-- later calls don't change a closed table
pub stays : ClosedTablesStay → SealsAreCounted → (d : Domain) (entries more : List Recorded) (cycle : ℕ) → cycle < seals entries →
    table_at d (entries ++ more) cycle ≡ table_at d entries cycle
stays stay counted d entries [] cycle closed = ap (λ (es : List Recorded). table_at d es cycle) (append-nil entries)
stays stay counted d entries (e ∷ more) cycle closed =
    let longer = counted entries e.seat e.act e.reply in
    ap (λ (es : List Recorded). table_at d es cycle) (sym (append_assoc entries (e ∷ []) more))
    ∙ stays stay counted d (entries ++ e ∷ []) more cycle (omega (arith, closed, longer)) ∙ stay d entries e.seat e.act e.reply cycle closed

-- a call that closes a cycle is a Seal
pub is_the_seal : (act : Act) → is_seal act ≡ true → act ≡ Seals
is_the_seal (Admits asked) h = absurd cc
is_the_seal (Withdraws name) h = absurd cc
is_the_seal Seals h = refl

-- a Seal closes the table of the streams that the entries before it hold in the next cycle
pub table_there : ClosedTablesStay → SealsAreCounted → SealClosesTable → (d : Domain) (entries more : List Recorded) (e : Recorded) → is_seal e.act ≡ true →
    e.reply ≡ Sealed → table_at d (entries ++ e ∷ more) (seals entries) ≡ held_in d entries (seals entries)
table_there stay counted closes d entries more e its sealed =
    let act_is = is_the_seal e.act its in
    let entry_is : e ≡ record { seat = e.seat; act = Seals; reply = Sealed } = (λ i. record { seat = e.seat; act = act_is i; reply = sealed i }) in
    let one_more : seals (entries ++ e ∷ []) ≡ seals entries + 1 =
    ap (λ (r : Recorded). seals (entries ++ r ∷ [])) entry_is ∙ counted entries e.seat Seals Sealed in
    ap (λ (es : List Recorded). table_at d es (seals entries)) (sym (append_assoc entries (e ∷ []) more))
    ∙ stays stay counted d (entries ++ e ∷ []) more (seals entries) (omega (arith, one_more))
    ∙ ap (λ (r : Recorded). table_at d (entries ++ r ∷ []) (seals entries)) entry_is
    ∙ closes d entries (held_in d entries (seals entries)) (next_number d entries) e.seat (record { held = refl; number = refl })
