use Rattle.cable_text.specs.Fields.{field_text}
use Rattle.site_text.proofs.PointLines.{turbine_line, substation_line, bend_line}
use Rattle.cable_text.proofs.Writers.{written_as}
use Rattle.site_text.proofs.write.push_point.Goals as goal

pub returns-in-Turbine : goal.returns-in-Turbine
returns-in-Turbine g c =
    written_as c.push_line.ensures (turbine_line c.args.point.now c.as_slice.result.now (field_text c.x_of-x.result) (field_text c.y_of-y.result) (field_text c.small_count.result) c.in-Turbine.power c.in-Turbine.is c.as_slice.ensures.value c.x_of-x.ensures c.y_of-y.ensures c.small_count.ensures)

pub returns-in-Substation : goal.returns-in-Substation
returns-in-Substation g c =
    written_as c.push_line-in-Substation.ensures (substation_line c.args.point.now c.as_slice.result.now (field_text c.x_of-x.result) (field_text c.y_of-y.result) (field_text c.small_count-in-Substation.result) (field_text c.small_count-in-Substation-2.result) c.in-Substation.feeders c.in-Substation.power c.in-Substation.is c.as_slice.ensures.value c.x_of-x.ensures c.y_of-y.ensures c.small_count-in-Substation.ensures c.small_count-in-Substation-2.ensures)

pub returns-in-Bend : goal.returns-in-Bend
returns-in-Bend g c =
    written_as c.push_line-in-Bend.ensures (bend_line c.args.point.now c.as_slice.result.now (field_text c.x_of-x.result) (field_text c.y_of-y.result) c.in-Bend.is c.as_slice.ensures.value c.x_of-x.ensures c.y_of-y.ensures)
