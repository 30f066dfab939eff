-- A run passes over a cycle in which nothing happens.
use Rattle.std.proofs.Common.{◌≡◌, ℕ, ◌+◌, ◌*◌, ◌≤◌, ◌<◌, ◌++◌, List, [], ◌∷◌, Contains, sym, refl, ap, ◌∙◌, inl, inr}
use Rattle.std.proofs.Common.{arith, subst, length, get_or, true, map, append-nil, filter}
use Rattle.std.specs.Prelude.{◌==◌, if◌then◌else◌}
use Rattle.std.proofs.lemmas.Bool.{cases_lt, cond-true}
use Rattle.std.proofs.lemmas.List.{get_or-map, length-map}
use Rattle.std.proofs.lemmas.List.Elements.{Contains-get_or}
use Rattle.cqf_lists.specs.Lists.{each_below}
use Rattle.cqf_lists.proofs.EachBelow.{contains_below, none_below}
use Rattle.cqf_lists.proofs.Members.{contains_flat, contains_from_flat, contains_from_map, contains_here, contains_map, contains_none}
use Rattle.cqf_model.specs.declared.frames.Dropped.{Dropped}
use Rattle.cqf_model.specs.declared.frames.Sent.{Sent}
use Rattle.cqf_model.specs.declared.frames.Started.{Started}
use Rattle.cqf_model.specs.Book.{background_in, batch, started, starts_in}
use Rattle.cqf_model.specs.Domain.{Domain, bridge_of, cycle_of, leaves}
use Rattle.cqf_model.specs.Network.{Network}
use Rattle.cqf_model.specs.Run.{Run}
use Rattle.cqf_model.specs.Policing.{Policed}
use Rattle.cqf_laws_cycle.specs.Gathered.{FramesAreTakenInOrder, offered_for}
use Rattle.cqf_laws_cycle.specs.PageLaws.{on_links_of}
use Rattle.cqf_laws_cycle.specs.RunSteps.{LossesAreOfCycles}
use Rattle.cqf_laws_network.specs.PortLaws.{LegalPartIsLegal}
use Rattle.cqf_bridge.specs.Batch.{LinkBatch}
use Rattle.cqf_agenda.specs.Links.{links_from}
use Rattle.cqf_bridge.specs.BridgeState.{end_of_cycle}
use Rattle.cqf_bridge.specs.PortRecord.{PortRecord}
use Rattle.cqf_bridge.specs.Quiet.{IsQuiet, MayPass, passed, rested}
use Rattle.cqf_bridge.specs.Cycles.{GivesTheDrops, ReceivingFollows, SendingFollows, drops_of_cycle}
use Rattle.cqf_bridge.specs.Follows.{batch_of, batches_from, batches_into}
use Rattle.cqf_bridge.specs.Verdicts.{LosesNothingIn, VerdictsAreTheRuns}
use Rattle.cqf_plain.specs.declared.driven.RunBridge.{RunBridge}
use Rattle.cqf_plain.specs.SoFar.{SoFarState, IsAt, IsQuietCycle}
use Rattle.cqf_plain.specs.Driven.{AllStandBefore, FirstLoseNothing, IsCycleOf, StandsBeforeCycle, StandsHalfway, drops_of_first, none_yet}
use Rattle.cqf_plain.specs.Due.{AreNextStarts, HasNothing, IsNoted, NoneBefore, driven_past, ports_of}
use Rattle.cqf_plain.proofs.ByLink.{leaves_own}
use Rattle.cqf_plain.proofs.Going.{next_at}
use Rattle.cqf_plain.proofs.Resting.{batches_empty, empty_batches, halfway_past, noted_quiet, noted_rested}
use Rattle.cqf_plain.proofs.Resting.{receives_none, sends_none, starts_rested, verdicts_none}
use Rattle.cqf_plain.proofs.Sent.{batches_so, halfway_so}

-- a list without elements is empty
no_members : {X : Type 0} (xs : List X) → ((x : X) → Contains xs x → ⊥) → xs ≡ []
no_members [] h = refl
no_members (x ∷ xs) h = absurd (h x (contains_here x xs))

module _ (run : Run) (net : Network) (cycle : ℕ) (of : IsCycleOf run net cycle) where
  module _ (k : ℕ) (s : RunBridge) (st : StandsBeforeCycle run net cycle k s) (quiet : (r : PortRecord) → Contains s.bridge.ports r →
      IsQuiet (end_of_cycle s.bridge.domain cycle) r)
      (nothing : HasNothing cycle s) (law : SendingFollows) where
    -- halfway it has sent the cycle as the network does
    halfway : StandsHalfway run net cycle none_yet k (record s { bridge = halfway_past cycle s.bridge })
    halfway = halfway_so run net cycle of k s st [] (sym nothing.no_background) (halfway_past cycle s.bridge) [] (empty_batches s.bridge cycle quiet)
        (sends_none s.bridge cycle quiet) law

    -- so what its links send is nothing
    sent_is : empty_batches s.bridge cycle quiet ≡ batches_from run.domain net.carried k cycle
    sent_is = batches_so run net cycle of k s st [] (sym nothing.no_background) (halfway_past cycle s.bridge) [] (empty_batches s.bridge cycle quiet)
        (sends_none s.bridge cycle quiet) law

    -- for streams' frames
    pub sends_nothing : (l : ℕ) → l < length run.domain.links → leaves run.domain l k ≡ true → batch run.domain net.carried l cycle ≡ []
    sends_nothing l inside here =
        let listed : Contains (links_from run.domain k) l =
        contains_below (λ m. if leaves run.domain m k then m ∷ [] else []) (length run.domain.links) l l inside
        (subst (λ (ls : List ℕ). Contains ls l) (sym (cond-true (leaves run.domain l k) (l ∷ []) [] here)) (contains_here l [])) in
        batches_empty s.bridge cycle quiet (batch_of run.domain net.carried cycle l)
        (subst (λ (xs : List LinkBatch). Contains xs (batch_of run.domain net.carried cycle l)) (sym sent_is)
        (contains_map (batch_of run.domain net.carried cycle) (links_from run.domain k) l listed))

    -- and for background frames
    pub starts_nothing : (l : ℕ) → l < length run.domain.links → leaves run.domain l k ≡ true → background_in run.domain net.backed cycle l ≡ []
    starts_nothing l inside here =
        let on_link = background_in run.domain net.backed cycle in
        let none : [] ≡ on_links_of run.domain s.bridge.number (background_in run.domain net.backed s.bridge.received) = halfway.has_sent.background in
        let none_here : [] ≡ on_links_of run.domain k on_link =
        none ∙ (λ i. on_links_of run.domain (st.own.number i) (background_in run.domain net.backed (st.own.received i))) in
        no_members (on_link l) (λ x held.
        contains_none x (subst (λ (xs : List Started). Contains xs x) (sym none_here)
        (contains_below (λ m. if leaves run.domain m k then on_link m else []) (length run.domain.links) l x inside
        (subst (λ (xs : List Started). Contains xs x) (sym (cond-true (leaves run.domain l k) (on_link l) [] here)) held))))

    module _ (silent : (l : ℕ) → batch run.domain net.carried l cycle ≡ []) (taken : FramesAreTakenInOrder) (receiving : ReceivingFollows)
        (verdicts : VerdictsAreTheRuns) where
      -- no frame arrives at it
      comes_empty : (bridge : ℕ) (x : LinkBatch) → Contains (batches_into run.domain net.carried bridge cycle) x → x.frames ≡ []
      comes_empty bridge x held =
          let w = contains_from_map (batch_of run.domain net.carried cycle) _ x held in
          ap (λ (y : LinkBatch). y.frames) (sym w.2) ∙ silent w.0

      some : 0 < run.domain.cycle_time
      some = omega (arith, of.compiled.accepted.cycle_least)

      -- so it receives the cycle
      gives : GivesTheDrops run cycle net (halfway_past cycle s.bridge) (passed cycle s.bridge) []
      gives = receiving run (length run.tables) cycle net (halfway_past cycle s.bridge) (passed cycle s.bridge) [] (record {
        compiled = of.compiled;
        has_sent = halfway.has_sent;
        next = sym st.own.received;
        receives = receives_none run cycle taken some (batches_into run.domain net.carried s.bridge.number cycle) (comes_empty s.bridge.number) s.bridge
            (sym (st.own.agenda.offers_are cycle ∙ ap (λ (n : ℕ). offered_for run.domain run.offers n cycle) (sym st.own.number)) ∙ nothing.no_offers)
            st.own.received st.follows.turn;
      })

      -- and is before the next cycle
      pub stands_past : StandsBeforeCycle run net (cycle + 1) k (driven_past cycle s)
      stands_past = record {
        own = record { domain = st.own.domain; number = st.own.number; received = refl; agenda = st.own.agenda };
        follows = gives.follows;
        none_came = st.none_came;
      }

      -- it drops nothing
      pub drops_nothing : drops_of_cycle run net k cycle ≡ []
      drops_nothing = ap (λ (n : ℕ). drops_of_cycle run net n cycle) (sym st.own.number) ∙ sym gives.are_drops

      -- and loses nothing
      pub loses_nothing : LosesNothingIn run net k cycle
      loses_nothing p held =
          absurd (contains_none p (subst (λ (ps : List Policed). Contains ps p)
          (sym (verdicts run (length run.tables) cycle k net of.compiled)
          ∙ verdicts_none run cycle taken some (batches_into run.domain net.carried k cycle) (comes_empty k) k
          (sym (st.own.agenda.offers_are cycle) ∙ nothing.no_offers))
          held))

  module _ (c : SoFarState) (at : IsAt run net cycle c) (d : Domain) (is_domain : run.domain ≡ d) (quiet : IsQuietCycle d cycle c)
      (part : LegalPartIsLegal) where
    -- a bridge of the run
    stands : (s : RunBridge) → Contains c.bridges s → (k : ℕ) × (k < length run.domain.bridges) × StandsBeforeCycle run net cycle k s
    stands s held =
        let below : held.0 < length run.domain.bridges = omega (arith, held.1, at.stand.one_each) in
        (held.0, below, subst (StandsBeforeCycle run net cycle held.0) held.2 (at.stand.each held.0 s below))

    -- the instant up to which a port has run
    port_reached : (s : RunBridge) → Contains c.bridges s → (r : PortRecord) → Contains s.bridge.ports r →
        r.port.reached ≡ cycle * run.domain.cycle_time
    port_reached s held r port =
        let st = (stands s held).2 in
        (st.follows.ports r port).reached ∙ ap (λ (n : ℕ). n * run.domain.cycle_time) st.own.received

    ends_later : cycle * run.domain.cycle_time ≤ end_of_cycle run.domain cycle
    ends_later = omega arith

    none_start : NoneBefore (end_of_cycle run.domain cycle) c.due
    none_start = subst (λ (x : Domain). NoneBefore (end_of_cycle x cycle) c.due) (sym is_domain) quiet.none_start

    -- none of its ports starts a frame
    port_quiet : (s : RunBridge) → Contains c.bridges s → (r : PortRecord) → Contains s.bridge.ports r →
        IsQuiet (end_of_cycle s.bridge.domain cycle) r
    port_quiet s held r port =
        let st = (stands s held).2 in
        let has = st.follows.ports r port in
        let reached = port_reached s held r port in
        subst (λ (x : Domain). IsQuiet (end_of_cycle x cycle) r) (sym st.own.domain)
        (noted_quiet part c.due r (end_of_cycle run.domain cycle) (at.due.noted r (contains_flat (λ (x : RunBridge). x.bridge.ports) c.bridges s r held port))
        (omega (arith, reached, ends_later))
        (λ index t started. omega (arith, has.legal.before_end index t started, has.reached, reached, ends_later)) none_start)

    -- so it may pass over the cycle
    pub may_pass : cycle < 100000 → (s : RunBridge) → Contains c.bridges s → MayPass s.bridge cycle
    may_pass early s held =
        let st = (stands s held).2 in
        record {
          not_spent = st.follows.of_run.not_spent;
          turn = st.follows.turn;
          ahead = omega (arith, st.own.received);
          early = early;
          quiet = port_quiet s held;
        }

    module _ (sending : SendingFollows) (taken : FramesAreTakenInOrder) (receiving : ReceivingFollows) (verdicts : VerdictsAreTheRuns)
        (losses : LossesAreOfCycles) where
      -- the bridge of a number
      abbrev bridge_at : ℕ → RunBridge → RunBridge
      bridge_at k e = get_or c.bridges k e

      held_at : (k : ℕ) (e : RunBridge) → k < length run.domain.bridges → Contains c.bridges (bridge_at k e)
      held_at k e inside = Contains-get_or c.bridges k e (omega (arith, inside, at.stand.one_each))

      -- some bridge, if there is an index
      any_at : (k : ℕ) → k < length run.domain.bridges → RunBridge
      any_at k inside = first_of c.bridges (omega (arith, inside, at.stand.one_each))
        where
          first_of : (xs : List RunBridge) → 0 < length xs → RunBridge
          first_of [] none = absurd (omega (arith, none))
          first_of (x ∷ xs) some = x

      -- a link of the domain sends nothing
      sends_none_at : (l : ℕ) → l < length run.domain.links → batch run.domain net.carried l cycle ≡ []
      sends_none_at l inside =
          let own = leaves_own run.domain l of.compiled.accepted inside in
          let k = bridge_of run.domain l in
          let e = any_at k own.1 in
          sends_nothing k (bridge_at k e) (at.stand.each k e own.1) (port_quiet (bridge_at k e) (held_at k e own.1))
          (quiet.none_come (bridge_at k e) (held_at k e own.1)) sending l inside own.0

      starts_none_at : (l : ℕ) → l < length run.domain.links → background_in run.domain net.backed cycle l ≡ []
      starts_none_at l inside =
          let own = leaves_own run.domain l of.compiled.accepted inside in
          let k = bridge_of run.domain l in
          let e = any_at k own.1 in
          starts_nothing k (bridge_at k e) (at.stand.each k e own.1) (port_quiet (bridge_at k e) (held_at k e own.1))
          (quiet.none_come (bridge_at k e) (held_at k e own.1)) sending l inside own.0

      silent : (l : ℕ) → batch run.domain net.carried l cycle ≡ []
      silent l = elim (cases_lt l (length run.domain.links)) [
        | inl inside ↦ sends_none_at l inside
        | inr past ↦ ap (filter (λ (sent : Sent). cycle_of run.domain sent.start.0 == cycle)) (of.compiled.legal.no_others l past).0
      ]

      -- each bridge is before the next cycle
      all_past : AllStandBefore run net (cycle + 1) (map (driven_past cycle) c.bridges)
      all_past = record {
        one_each = length-map c.bridges (driven_past cycle) ∙ at.stand.one_each;
        each = λ k e inside.
            let s = any_at k inside in
            let x = bridge_at k s in
            let within : k < length c.bridges = omega (arith, inside, at.stand.one_each) in
            subst (StandsBeforeCycle run net (cycle + 1) k) (sym (get_or-map (driven_past cycle) c.bridges k s e within))
            (stands_past k x (at.stand.each k s inside) (port_quiet x (held_at k s inside)) (quiet.none_come x (held_at k s inside)) sending
            silent taken receiving verdicts);
      }

      -- nothing is dropped
      none_dropped : drops_of_first run net cycle (length run.domain.bridges) ≡ []
      none_dropped = none_below (λ bridge. drops_of_cycle run net bridge cycle) (length run.domain.bridges) (λ k inside.
          let s = any_at k inside in
          let x = bridge_at k s in
          drops_nothing k x (at.stand.each k s inside) (port_quiet x (held_at k s inside)) (quiet.none_come x (held_at k s inside)) sending
          silent taken receiving verdicts)

      -- nor lost
      none_lost : FirstLoseNothing run net cycle (length run.domain.bridges)
      none_lost k inside =
          let s = any_at k inside in
          let x = bridge_at k s in
          loses_nothing k x (at.stand.each k s inside) (port_quiet x (held_at k s inside)) (quiet.none_come x (held_at k s inside)) sending
          silent taken receiving verdicts

      -- the next starts are unchanged
      due_past : AreNextStarts c.due (ports_of (map (driven_past cycle) c.bridges))
      due_past = record {
        noted = λ r held.
            let f = contains_from_flat (λ (x : RunBridge). x.bridge.ports) (map (driven_past cycle) c.bridges) r held in
            let g = contains_from_map (driven_past cycle) c.bridges f.0 f.1 in
            let there : Contains (driven_past cycle g.0).bridge.ports r = subst (λ (x : RunBridge). Contains x.bridge.ports r) (sym g.2) f.2 in
            let h = contains_from_map (rested (end_of_cycle g.0.bridge.domain cycle)) g.0.bridge.ports r there in
            subst (IsNoted c.due) h.2
            (subst (λ (x : Domain). IsNoted c.due (rested (end_of_cycle x cycle) h.0)) (sym (stands g.0 g.1).2.own.domain)
            (noted_rested c.due h.0 (end_of_cycle run.domain cycle)
            (at.due.noted h.0 (contains_flat (λ (x : RunBridge). x.bridge.ports) c.bridges g.0 h.0 g.1 h.1))
            (omega (arith, port_reached g.0 g.1 h.0 h.1, ends_later)) none_start));
        only = λ k among.
            let w = at.due.only k among in
            let f = contains_from_flat (λ (x : RunBridge). x.bridge.ports) c.bridges w.0 w.1 in
            let end = end_of_cycle f.0.bridge.domain cycle in
            let upto : end ≤ k.0.0 = subst (λ (x : Domain). end_of_cycle x cycle ≤ k.0.0) (sym (stands f.0 f.1).2.own.domain) (none_start k among) in (
              rested end w.0,
              contains_flat (λ (x : RunBridge). x.bridge.ports) (map (driven_past cycle) c.bridges) (driven_past cycle f.0) (rested end w.0)
                  (contains_map (driven_past cycle) c.bridges f.0 f.1) (contains_map (rested end) f.0.bridge.ports w.0 f.2),
              starts_rested w.0 k.0.0 end w.2 upto,
              w.3,
            );
      }

      -- the run is at the next cycle
      pub passed_at : IsAt run net (cycle + 1) (record { bridges = map (driven_past cycle) c.bridges; due = c.due; book = c.book })
      passed_at =
          let links = length run.domain.links in
          let starts : each_below (starts_in run.domain net.carried cycle) links ≡ [] =
          none_below (starts_in run.domain net.carried cycle) links (λ l inside. ap (map (started cycle l)) (silent l)) in
          let background : each_below (background_in run.domain net.backed cycle) links ≡ [] =
          none_below (background_in run.domain net.backed cycle) links starts_none_at in
          next_at run net cycle of losses c (record { bridges = map (driven_past cycle) c.bridges; due = c.due; book = c.book }) c.book at
          (record {
            starts = sym (append-nil c.book.starts) ∙ ap (λ (xs : List Started). c.book.starts ++ xs) (sym starts);
            background = sym (append-nil c.book.background) ∙ ap (λ (xs : List Started). c.book.background ++ xs) (sym background);
            drops = refl;
          })
          all_past due_past refl refl
          (sym (append-nil c.book.drops) ∙ ap (λ (xs : List Dropped). c.book.drops ++ xs) (sym none_dropped))
          none_lost
