mod LabelsRead
mod NamesRead
