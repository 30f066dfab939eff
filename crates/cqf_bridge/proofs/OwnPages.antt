-- A bridge's output in a cycle is its page of the book.
use Rattle.std.proofs.Common.{◌≡◌, ℕ, ◌*◌, ◌<◌, length, sym, ap, ◌∙◌}
use Rattle.std.specs.List.{flat_map}
use Rattle.std.proofs.lemmas.List.Folds.{flat_map-map}
use Rattle.cqf_lists.proofs.Numbers.{made_of_kept}
use Rattle.cqf_model.specs.Book.{Contents, IsBook, background_in, page_drops, page_of, page_starts, starts_in}
use Rattle.cqf_model.specs.Domain.{Domain, leaves}
use Rattle.cqf_model.specs.Network.{Network, compiled_lists}
use Rattle.cqf_model.specs.Run.{Run}
use Rattle.cqf_model.specs.Policing.{Carried, policed_before}
use Rattle.cqf_laws_network.specs.NetworkLaws.{LegalNetworkIsUnique}
use Rattle.cqf_laws_cycle.specs.BridgeCycle.{DropsAreOfTheCycle, IsCompiledNetwork}
use Rattle.cqf_laws_cycle.specs.PageLaws.{PageSaysTheBackground, PageSaysWhatIsDropped, PageSaysWhatItsLinksSend, on_links_of}
use Rattle.cqf_agenda.specs.Links.{links_from}
use Rattle.cqf_bridge.specs.Cycles.{drops_of_cycle, page_given, starts_of_batch}
use Rattle.cqf_bridge.specs.Follows.{batch_of, batches_from}

-- the frames of a bridge's batches are what its links send in the cycle
starts_are : (d : Domain) (carried : Carried) (bridge cycle : ℕ) →
    flat_map starts_of_batch (batches_from d carried bridge cycle) ≡ on_links_of d bridge (starts_in d carried cycle)
starts_are d carried bridge cycle =
    flat_map-map starts_of_batch (batch_of d carried cycle) (links_from d bridge)
    ∙ made_of_kept (λ l. leaves d l bridge) (starts_in d carried cycle) (length d.links)

module _ (unique : LegalNetworkIsUnique) (says_starts : PageSaysWhatItsLinksSend) (says_background : PageSaysTheBackground)
    (says_drops : PageSaysWhatIsDropped) (of_the_cycle : DropsAreOfTheCycle) (run : Run) (cycles cycle bridge : ℕ) (net : Network) (book : Contents)
    (compiled : IsCompiledNetwork run cycles net) (is : IsBook run (compiled_lists run.domain) cycles book)
    (in_bridges : bridge < length run.domain.bridges) (in_cycles : cycle < cycles) where
  -- the book's network is the legal one
  same_network : is.net ≡ net
  same_network = unique run (compiled_lists run.domain) cycles is.net net is.legal compiled.legal

  -- the page's starts
  page_starts_are : page_starts run.domain bridge cycle book.starts ≡ flat_map starts_of_batch (batches_from run.domain net.carried bridge cycle)
  page_starts_are =
      let d = run.domain in
      ap (page_starts d bridge cycle) is.are_starts
      ∙ says_starts d cycles is.net.carried bridge cycle in_cycles
      ∙ ap (λ (n : Network). on_links_of d bridge (starts_in d n.carried cycle)) same_network
      ∙ sym (starts_are d net.carried bridge cycle)

  -- its background frames
  page_background_is : page_starts run.domain bridge cycle book.background ≡ on_links_of run.domain bridge (background_in run.domain net.backed cycle)
  page_background_is =
      let d = run.domain in
      ap (page_starts d bridge cycle) is.are_background
      ∙ says_background d cycles is.net.backed bridge cycle in_cycles
      ∙ ap (λ (n : Network). on_links_of d bridge (background_in d n.backed cycle)) same_network

  -- and its drops
  page_drops_are : page_drops bridge cycle book.drops ≡ drops_of_cycle run net bridge cycle
  page_drops_are =
      let d = run.domain in
      let indices = length run.offers in
      ap (page_drops bridge cycle) is.are_drops
      ∙ says_drops d cycles indices (λ b. policed_before run is.net.carried b (cycles * d.cycle_time)) bridge cycle in_bridges in_cycles
      ∙ of_the_cycle run is.net.carried cycles cycle bridge indices in_cycles
      ∙ ap (λ (n : Network). drops_of_cycle run n bridge cycle) same_network

  -- are the bridge's output
  pub page_is_given : page_of run.domain bridge cycle book
      ≡ page_given (batches_from run.domain net.carried bridge cycle) (on_links_of run.domain bridge (background_in run.domain net.backed cycle))
      (drops_of_cycle run net bridge cycle)
  page_is_given = λ i. record { starts = page_starts_are i; background = page_background_is i; drops = page_drops_are i }
