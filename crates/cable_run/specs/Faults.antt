-- What the faults of the crates below are for a command.
use Rattle.std.specs.Prelude.{cond}
use Rattle.cable_definitions.specs.declared.claim.Cause.TheVariants.{Line, Site as SiteCause}
use Rattle.site_model.specs.declared.fault.SiteFault.{SiteFault}
use Rattle.site_model.specs.declared.fault.SiteFault.TheVariants.{Refused as RefusedSite, Read as SiteRead, Memory as SiteMemory}
use Rattle.proof_text.specs.declared.fault.ItemFault.{ItemFault}
use Rattle.proof_text.specs.declared.fault.ItemFault.TheVariants.{Refused as RefusedLine, Read as LineRead}
use Rattle.document_check.specs.declared.document.DocumentFault.{DocumentFault}
use Rattle.document_check.specs.declared.document.DocumentFault.TheVariants.{Refused as RefusedDocument, Read as DocumentRead, Memory as DocumentMemory}
use Rattle.search_core.specs.declared.searching.SearchFault.{SearchFault}
use Rattle.search_core.specs.declared.searching.SearchFault.TheVariants.{Write as SearchWrite, Memory as SearchMemory}
use Rattle.cable_run.specs.declared.fault.Fault.{Fault}
use Rattle.cable_run.specs.declared.fault.Fault.TheVariants.{OfSite, OfDocument, Read, Write, Memory}

-- the fault of a site
abbrev pub site_fault : SiteFault → Fault
site_fault (RefusedSite code place broken_line) = OfSite code place
site_fault SiteRead = Read
site_fault SiteMemory = Memory

-- the fault of a site in a document: a line that is missing, too long or unended, or a site that is refused
abbrev pub fault_in_document : SiteFault → Fault
fault_in_document (RefusedSite code place broken_line) = OfDocument (record { line = place; cause = cond broken_line Line SiteCause })
fault_in_document SiteRead = Read
fault_in_document SiteMemory = Memory

-- the fault of a line behind a site
abbrev pub line_fault : ItemFault → Fault
line_fault (RefusedLine refusal) = OfDocument refusal
line_fault LineRead = Read

-- the fault of a document behind its site
abbrev pub document_fault : DocumentFault → Fault
document_fault (RefusedDocument refusal) = OfDocument refusal
document_fault DocumentRead = Read
document_fault DocumentMemory = Memory

-- the fault of a search
abbrev pub search_fault : SearchFault → Fault
search_fault SearchWrite = Write
search_fault SearchMemory = Memory
